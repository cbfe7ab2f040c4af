-- A triple fits the pattern of a line where some choice of the letters makes the row's line of it.
use Rattle.std.proofs.Common.{◌≡◌, refl, sym, ap, ◌∙◌, subst, true, ◌&&◌, Some}
use Rattle.model_shapes.specs.Sorts.{DataSort}
use Rattle.model_shapes.proofs.Truth.{false≢true, both_true, and_from}
use Rattle.model_terms.specs.Stores.{ProgVar}
use Rattle.model_formulas.specs.Formulas.{Formula}
use Rattle.model_formulas.proofs.SameFormulas.{same_formula-is, same_formula-refl}
use Rattle.model_commands.specs.Commands.{Command, create_node}
use Rattle.model_commands.specs.Theories.{Judgement, triple}
use Rattle.rule_table.specs.Entries.{Row}
use Rattle.rule_table.specs.Letters.{Letters}
use Rattle.rule_table.specs.Notation.{prog_term}
use Rattle.rule_patterns.specs.Patterns.{formula_of, data_of}
use Rattle.letter_bindings.specs.Bodies.{BindsSorted}
use Rattle.small_axioms.specs.declared.rows.Kind.{Kind}
use Rattle.small_axioms.specs.declared.rows.Kind.TheVariants as k
use Rattle.small_axioms.specs.Commands.{command_at, terms_in, known_of}
use Rattle.small_axioms.specs.Lines.{line_for, conclusion_at, own, ReadsNew, IsTied}
use Rattle.small_axioms.specs.Parts.{name_in, new_root}
use Rattle.small_axioms.specs.Patterns.{AxiomPattern}
use Rattle.small_axioms.specs.Tests.{is_kind, walks, is_new, says_new, fits}
use Rattle.small_axioms.proofs.Commands.{target, IsNew, own-again, kind-self, terms-self, command-from}
use Rattle.small_axioms.proofs.Walked.{walked-some, walked-all}

-- THE FORMULA AFTER createNode
new-from : (kind : Kind) (a : AxiomPattern) (c : Command) (l : Letters) (p q : Formula)
    → ReadsNew kind a → is_kind kind c ≡ true → formula_of l a.pre ≡ p → formula_of l a.post ≡ q
    → says_new kind (known_of c) p q ≡ true → IsNew kind (target c) l
new-from k.Create a (create_node x e) l p q reads h f g s =
    same_formula-is (new_root l.T (prog_term x)) q
    (subst (λ o. is_new (Some (prog_term x)) o q ≡ true) (sym (ap name_in f) ∙ (reads l).0) s)
    ∙ (sym g ∙ (reads l).1)
new-from k.Create a c l p q reads h f g s = false≢true h
new-from kind a c l p q reads h f g s = tt

new-self : (kind : Kind) (a : AxiomPattern) (x : ProgVar) (l : Letters) → ReadsNew kind a
    → says_new kind (known_of (command_at kind x (own kind x l))) (formula_of (own kind x l) a.pre)
    (formula_of (own kind x l) a.post) ≡ true
new-self k.Create a x l reads =
    let o = own k.Create x l in
    (λ i. is_new (Some (prog_term x)) ((reads o).0 i) ((reads o).1 i))
    ∙ same_formula-refl (new_root l.T (prog_term x))
new-self kind a x l reads = refl

module _ (row : Row) (a : AxiomPattern) (tie : IsTied row a) where
  -- each line of the row is that of its conclusion
  pub plain : (l : Letters) → row l ≡ line_for (row l).conclusion
  plain l = tie.again l l.v ∙ sym (ap (λ line. line_for line.conclusion) (tie.again l l.v))

  module _ (c : Command) (p q : Formula) (d : DataSort)
      (sorted : BindsSorted p × BindsSorted q) where
    abbrev j : Judgement
    j = triple p c q d

    -- WHAT FITS is a line of the row
    pub fits-line : fits a c (known_of c) p q d ≡ true → (l : Letters) × (row l ≡ line_for j)
    fits-line e =
        let h = both_true (is_kind a.kind c)
        (walks a (known_of c) p q d && says_new a.kind (known_of c) p q) e in
        let g = both_true (walks a (known_of c) p q d) (says_new a.kind (known_of c) p q) h.1 in
        let m = walked-some a tie.ready c p q d sorted h.0 g.0 in
        let made = m.1 in
        let f = command-from a.kind c h.0 m.0 made.terms in
        let new = new-from a.kind a c m.0 p q tie.reads_new h.0 made.pre made.post g.1 in (
          record m.0 { v = target c },
          tie.again m.0 (target c)
              ∙ (ap (λ l. line_for (conclusion_at a (target c) l))
              (own-again a.kind (target c) m.0 f.1 new)
              ∙ (λ i. line_for (triple (made.pre i) (f.0 i) (made.post i) (made.sort i)))),
        )

    -- and the other way round
    pub line-fits : (l : Letters) → (row l).conclusion ≡ j → fits a c (known_of c) p q d ≡ true
    line-fits l e =
        let o = own a.kind l.v l in
        let h : conclusion_at a l.v o ≡ j =
        sym (ap (λ line. line.conclusion) (tie.again l l.v)) ∙ e in
        let command : command_at a.kind l.v o ≡ c = cc in
        let pre : formula_of o a.pre ≡ p = cc in
        let post : formula_of o a.post ≡ q = cc in
        let sort : data_of o a.sort ≡ d = cc in
        let kind = subst (λ z. is_kind a.kind z ≡ true) command (kind-self a.kind l.v o) in
        and_from (is_kind a.kind c) _ kind
        (and_from (walks a (known_of c) p q d) _
        (walked-all a tie.ready c p q d sorted kind o (record {
          terms = terms-self a.kind l.v l ∙ ap terms_in command;
          pre = pre;
          post = post;
          sort = sort;
        }))
        ((λ i. says_new a.kind (known_of (sym command i)) (sym pre i) (sym post i))
        ∙ new-self a.kind a l.v l tie.reads_new))
