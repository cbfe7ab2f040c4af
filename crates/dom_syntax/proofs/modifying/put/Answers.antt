-- A variable that is there or is one of a block around, and a new one.
use Rattle.std.proofs.Common.{◌≡◌, ◌∙◌, sym, List, true, subst}
use Rattle.model_terms.specs.Stores as stores
use Rattle.model_terms.specs.Stores.{same_name}
use Rattle.model_commands.specs.SortTests.{distinct_by}
use Rattle.dom_terms.specs.Terms.{prog_var_of}
use Rattle.dom_syntax.specs.Modified.{Adds, IsOutside, found_in, shadowed_by}
use Rattle.dom_syntax.specs.VariableSets.{Holds}
use Rattle.dom_syntax.proofs.VariableSetLaws.{on-ok}
use Rattle.dom_syntax.proofs.ModifiedLaws.{adds-shadowed, adds-found, adds-one, distinct-one, pushed}
use Rattle.dom_syntax.proofs.modifying.put.Goals as goal
use Rattle.dom_syntax.proofs.modifying.put.Goals.{then-is_shadowed-via-then-is_shadowed, then-is_shadowed-via-else-is_shadowed+then-has}

pub returns-then-is_shadowed-clause-added : goal.returns-then-is_shadowed-clause-added
returns-then-is_shadowed-clause-added c = elim c.then-is_shadowed.branch [
  | then-is_shadowed-via-then-is_shadowed w ↦
      adds-shadowed (found_in c.args.found.now) (shadowed_by c.args.over.now)
      (prog_var_of c.args.variable.now) (sym c.is_shadowed.ensures ∙ w.if-is_shadowed.true)
  | then-is_shadowed-via-else-is_shadowed+then-has w ↦
      adds-found (found_in c.args.found.now) (shadowed_by c.args.over.now)
      (prog_var_of c.args.variable.now)
      (sym (w.has.ensures (found_in c.args.found.now) c.requires.holds) ∙ w.if-has.true)
]

pub returns-clause-found : goal.returns-clause-found
returns-clause-found c =
    on-ok c.push.result (λ e. record {
      holds = subst (λ (l : List stores.ProgVar). Holds c.insert.new.self l)
          (sym (pushed c.args.found.now.variables c.push.new.self c.in_ok-copy.field-0
          c.args.variable.now e c.in_ok-copy.ensures))
          (c.in_ok-insert.ensures (found_in c.args.found.now) c.requires.holds);
      once = subst (λ (l : List stores.ProgVar). distinct_by same_name l ≡ true)
          (sym (pushed c.args.found.now.variables c.push.new.self c.in_ok-copy.field-0
          c.args.variable.now e c.in_ok-copy.ensures))
          (distinct-one (found_in c.args.found.now) (prog_var_of c.args.variable.now)
          c.requires.once
          (sym (c.has.ensures (found_in c.args.found.now) c.requires.holds) ∙ c.if-has.false));
    }) c.push.ensures.ok

pub returns-clause-added : goal.returns-clause-added
returns-clause-added c =
    on-ok c.push.result (λ e.
    subst (λ (l : List stores.ProgVar). Adds (found_in c.args.found.now) l
    (λ x. (x ≡ prog_var_of c.args.variable.now) × IsOutside c.args.over.now x))
    (sym (pushed c.args.found.now.variables c.push.new.self c.in_ok-copy.field-0
    c.args.variable.now e c.in_ok-copy.ensures))
    (adds-one (found_in c.args.found.now) (shadowed_by c.args.over.now)
    (prog_var_of c.args.variable.now) (sym c.is_shadowed.ensures ∙ c.if-is_shadowed.false)))
    c.push.ensures.ok
