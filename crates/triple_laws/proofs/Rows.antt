-- Each row of the table of triples is sound, by the number of steps.
use Rattle.std.proofs.Common.{◌≡◌, ℕ, List, Some, subst, ⊎_elim, true}
use Rattle.rule_table.specs.Rules as Tr
use Rattle.rule_table.specs.Axioms as Ax
use Rattle.triple_laws.proofs.Control as Co
use Rattle.triple_laws.proofs.Framing as Fr
use Rattle.triple_laws.proofs.LogicVariables as Lo
use Rattle.triple_laws.proofs.ReadAxioms as Re
use Rattle.triple_laws.proofs.AppendAxiom as Ap
use Rattle.triple_laws.proofs.InsertAxiom as In
use Rattle.triple_laws.proofs.RemoveAxiom as Rm
use Rattle.triple_laws.proofs.CreateAxiom as Cr
use Rattle.triple_laws.proofs.Calls as Ca
use Rattle.model_shapes.specs.Sorts.{DataSort, forest, grove}
use Rattle.model_formulas.specs.Formulas.{Formula}
use Rattle.model_commands.specs.Commands.{Command, assign, create_node, node_name, child_nodes, parent_node, list_item, append_child, remove_child, insert_before, if_else, while_do, call}
use Rattle.model_commands.specs.SortTests.{BodiesSorted}
use Rattle.model_commands.specs.Scopes.{IsScoped}
use Rattle.model_commands.specs.Sorting.{CallFits, Sorted}
use Rattle.model_commands.proofs.Sorting.{sorted-command}
use Rattle.model_commands.specs.Theories.{Procedures, Procedure, procedure_named, triple}
use Rattle.triple_laws.proofs.Ends.{Sound, to_sound, from_sound}
use Rattle.entailment_laws.specs.Judgements.{Proved}
use Rattle.triple_laws.specs.BySteps.{UpTo, step_fits, in_steps, HoldBelow}
use Rattle.triple_laws.proofs.Fitting.{step-sorted, call-apart}
use Rattle.rule_table.specs.Axioms.{axioms}
use Rattle.rule_table.specs.Table.{triples}
use Rattle.rule_table.proofs.SomeLetters.{◌&◌}
use Rattle.entailment_laws.proofs.SoundRows.{SoundRow, SoundEntries, sound-append, term-stands}

-- what calls need of the procedures that they mean
abbrev pub Scoped : Procedures → Type 0
Scoped ps = (name : List ℕ) (f : Procedure) → procedure_named name ps ≡ Some f → IsScoped f

module _ (ps : Procedures) (bodies : BodiesSorted ps) (n : ℕ) where
  -- a premise, from the start of its runs
  begin : (p : Formula) (c : Command) (q : Formula) (d : DataSort) → Proved (in_steps ps n)
      (triple p c q d)
      → Sound ps bodies n p c q d
  begin p c q d h = to_sound ps bodies n p c q d (step-sorted ps c h.0) h.1

  -- the parts of the command of a conclusion
  parts : (c : Command) → step_fits ps c ≡ true → Sorted ps c
  parts c e = sorted-command ps c (step-sorted ps c e)

  -- RULES
  skip : SoundRow (in_steps ps n) Tr.skip_rule
  skip l so w c h = from_sound ps bodies n l.P _ l.P l.k (Co.skip-sound ps bodies n l.P l.k)

  assigns : SoundRow (in_steps ps n) Tr.assign_rule
  assigns l so w c h =
      from_sound ps bodies n _ _ l.Q l.k (Co.assign-sound ps bodies n l.Q l.v l.E l.k
      (parts (assign l.v l.E) so))

  seq : SoundRow (in_steps ps n) Tr.seq_rule
  seq l so w c h =
      from_sound ps bodies n l.P _ _ l.k (Co.seq-sound ps bodies n l.k l.P l.C l.Q l.links h)

  if : SoundRow (in_steps ps n) Tr.if_rule
  if l so w c h =
      from_sound ps bodies n l.P _ l.Q l.k
      (Co.if-sound ps bodies n l.P l.c l.b l.b' l.Q l.k (parts (if_else l.c l.b l.b') so).0
      (begin _ _ l.Q l.k h.0)
      (begin _ _ l.Q l.k h.1.0))

  while : SoundRow (in_steps ps n) Tr.while_rule
  while l so w c h =
      from_sound ps bodies n l.P _ _ l.k
      (Co.while-sound ps bodies l.P l.c l.b l.k (parts (while_do l.c l.b) so).0 n
      (begin _ _ l.P l.k h.0))

  locals : SoundRow (in_steps ps n) Tr.local_rule
  locals l so w c h =
      from_sound ps bodies n l.P _ l.Q l.k
      (Co.local-sound ps bodies l.P l.v l.b l.Q l.k (⊎_elim c.0 c.1.0) n (begin _ _ l.Q l.k h.0))

  frame : SoundRow (in_steps ps n) Tr.frame_rule
  frame l so w c h =
      from_sound ps bodies n _ l.C _ l.k
      (Fr.frame-sound ps bodies n l.K l.P l.Q l.C l.h l.k c.0 (begin l.P l.C l.Q l.h h.0))

  consequence : SoundRow (in_steps ps n) Tr.consequence_rule
  consequence l so w c h =
      from_sound ps bodies n l.P l.C l.Q l.k
      (Fr.consequence-sound ps bodies n l.P l.A l.Q l.B l.C l.k h.0.1 h.1.1.0.1
      (begin l.A l.C l.B l.k h.1.0))

  eliminate : SoundRow (in_steps ps n) Tr.eliminate_rule
  eliminate l so w c h =
      from_sound ps bodies n _ l.C _ l.k
      (Lo.eliminate-sound ps bodies n l.x.name l.x.sort l.P l.Q l.C l.k
      (begin l.P l.C l.Q l.k h.0))

  disjunction : SoundRow (in_steps ps n) Tr.disjunction_rule
  disjunction l so w c h =
      from_sound ps bodies n _ l.C l.Q l.k
      (Fr.disjunction-sound ps bodies n l.P l.A l.Q l.C l.k (begin l.P l.C l.Q l.k h.0)
      (begin l.A l.C l.Q l.k h.1.0))

  absurd_row : SoundRow (in_steps ps n) Tr.absurd_rule
  absurd_row l so w c h =
      from_sound ps bodies n _ l.C l.Q l.k (Fr.absurd-sound ps bodies n l.Q l.C l.k)

  instance : SoundRow (in_steps ps n) Tr.instance_rule
  instance l so w c h =
      from_sound ps bodies n _ l.C _ l.k
      (Lo.instance-sound ps bodies n l.x.name l.x.sort l.P l.Q l.C l.k
      (begin l.P l.C l.Q l.k h.0) l.E (term-stands l.x.sort l.E w.1.0) c.0)

  module _ (scoped : Scoped ps) (below : HoldBelow ps n) where
    calls : SoundRow (in_steps ps n) (λ letters. Tr.call_rule letters ps)
    calls l so w c h =
        let sorted : Sorted ps (call l.rs l.f.name l.es) = parts (call l.rs l.f.name l.es) so in
        let fits : CallFits (Some l.f) l.rs l.es =
        subst (λ o. CallFits o l.rs l.es) w.0 sorted.0 in
        from_sound ps bodies n _ _ _ l.f.sort
        (Ca.call-sound ps bodies l.f (scoped l.f.name l.f w.0) l.rs l.es fits.0 fits.1 sorted.1
        (call-apart ps l.rs l.f.name l.es so) n
        l.f.name w.0 (below l.f.name l.f w.0))

  -- AXIOMS
  name : SoundRow (in_steps ps n) Ax.name_axiom
  name l so w c h =
      Re.name-sound ps (UpTo n) l.v l.E l.S l.I l.P l.L c.0 (parts (node_name l.v l.E) so)

  children : SoundRow (in_steps ps n) Ax.children_axiom
  children l so w c h =
      Re.children-sound ps (UpTo n) l.v l.E l.S l.I l.P l.L c.0 (parts (child_nodes l.v l.E) so)

  item : SoundRow (in_steps ps n) Ax.item_axiom
  item l so w c h =
      Re.item-sound ps (UpTo n) l.v l.E l.F l.G l.S l.I l.P l.T l.J l.Q l.M l.R l.L
      c.0 (parts (list_item l.v l.E l.F) so)

  item_none : SoundRow (in_steps ps n) Ax.item_none_axiom
  item_none l so w c h =
      Re.item-none-sound ps (UpTo n) l.v l.E l.F l.G l.S l.I l.P l.L
      c.0 (parts (list_item l.v l.E l.F) so)

  parent : SoundRow (in_steps ps n) Ax.parent_axiom
  parent l so w c h =
      Re.parent-sound ps (UpTo n) l.v l.E l.S l.I l.P l.T l.J l.Q l.M l.R l.L
      c.0 (parts (parent_node l.v l.E) so)

  parent_none : SoundRow (in_steps ps n) Ax.parent_none_axiom
  parent_none l so w c h =
      Re.parent-none-sound ps (UpTo n) l.v l.E l.S l.I l.P l.L
      c.0 (parts (parent_node l.v l.E) so)

  create : SoundRow (in_steps ps n) Ax.create_axiom
  create l so w c h = Cr.create-sound ps (UpTo n) l.v l.E l.T c.0 (parts (create_node l.v l.E) so)

  append_in_forest : SoundRow (in_steps ps n) Ax.append_in_forest
  append_in_forest l so w c h e st pr r wr mt around wc wf picks long =
      Ap.append-sound ps bodies forest l.k (λ q. cc) l.K l.E l.F l.S l.I l.P l.L l.T l.J l.Q l.M
      e st pr (step-sorted ps (append_child l.E l.F) so) r wr mt around wc wf picks

  append_in_grove : SoundRow (in_steps ps n) Ax.append_in_grove
  append_in_grove l so w c h e st pr r wr mt around wc wf picks long =
      Ap.append-sound ps bodies grove grove (λ q. cc) l.K l.E l.F l.S l.I l.P l.L l.T l.J l.Q l.M
      e st pr (step-sorted ps (append_child l.E l.F) so) r wr mt around wc wf picks

  remove : SoundRow (in_steps ps n) Ax.remove_axiom
  remove l so w c h e st pr r wr mt around wc wf picks long =
      Rm.remove-sound ps bodies l.K l.E l.F l.S l.I l.P l.T l.J l.Q l.M l.R l.L
      (step-sorted ps (remove_child l.E l.F) so) e st pr r wr mt
      around wc wf picks

  insert_before_in_forest : SoundRow (in_steps ps n) Ax.insert_before_in_forest
  insert_before_in_forest l so w c h e st pr r wr mt around wc wf picks long =
      In.insert-sound ps bodies forest l.k (λ q. cc) l.K l.E l.F l.G l.S l.I l.P l.Y l.V l.A l.N
      l.R l.L l.T l.J l.Q l.M (step-sorted ps (insert_before l.E l.F l.G) so) e st pr r wr mt
      around wc wf picks

  insert_before_in_grove : SoundRow (in_steps ps n) Ax.insert_before_in_grove
  insert_before_in_grove l so w c h e st pr r wr mt around wc wf picks long =
      In.insert-sound ps bodies grove grove (λ q. cc) l.K l.E l.F l.G l.S l.I l.P l.Y l.V l.A l.N
      l.R l.L l.T l.J l.Q l.M (step-sorted ps (insert_before l.E l.F l.G) so) e st pr r wr mt
      around wc wf picks

  insert_last_in_forest : SoundRow (in_steps ps n) Ax.insert_last_in_forest
  insert_last_in_forest l so w c h e st pr r wr mt around wc wf picks long =
      Ap.last-sound ps bodies forest l.k (λ q. cc) l.K l.E l.F l.S l.I l.P l.L l.T l.J l.Q l.M
      e st pr l.G (step-sorted ps (insert_before l.E l.F l.G) so) r wr mt around wc wf picks

  insert_last_in_grove : SoundRow (in_steps ps n) Ax.insert_last_in_grove
  insert_last_in_grove l so w c h e st pr r wr mt around wc wf picks long =
      Ap.last-sound ps bodies grove grove (λ q. cc) l.K l.E l.F l.S l.I l.P l.L l.T l.J l.Q l.M
      e st pr l.G (step-sorted ps (insert_before l.E l.F l.G) so) r wr mt around wc wf picks

  -- EACH AXIOM, AND EACH RULE
  pub axioms-sound : SoundEntries (in_steps ps n) Ax.axioms
  axioms-sound =
      (name & tt) &
      (children & tt) &
      (item & tt) &
      (item_none & tt) &
      (parent & tt) &
      (parent_none & tt) &
      (create & tt) &
      (append_in_forest & append_in_grove & tt) &
      (remove & tt) &
      (insert_before_in_forest & insert_before_in_grove & tt) &
      (insert_last_in_forest & insert_last_in_grove & tt) & tt

  pub rules-sound : Scoped ps → HoldBelow ps n → SoundEntries (in_steps ps n) (Tr.rules ps)
  rules-sound scoped below =
      (skip & tt) &
      (assigns & tt) &
      (seq & tt) &
      (if & tt) &
      (while & tt) &
      (locals & tt) &
      (calls scoped below & tt) &
      (frame & tt) &
      (consequence & tt) &
      (eliminate & tt) &
      (disjunction & tt) &
      (absurd_row & tt) &
      (instance & tt) & tt

  pub triples-sound : Scoped ps → HoldBelow ps n → SoundEntries (in_steps ps n) (triples ps)
  triples-sound scoped below =
      sound-append (in_steps ps n) (Tr.rules ps) Ax.axioms (rules-sound scoped below) axioms-sound
