-- The scope is that of the names and the procedure.
use Rattle.std.proofs.Common.{Option, ◌≡◌, ◌∙◌, sym, Bool, true, not, subst, bytes_eq}
use Rattle.std.specs.Bool.{OnTrue}
use Rattle.std.specs.List.{list_any}
use Rattle.model_files.specs.FileFaults.{FileFault, first_fault_at}
use Rattle.declared_sorts.specs.Settled.{procedure_settled}
use Rattle.theory_syntax.specs.Theories.{procedure_of}
use Rattle.dom_syntax.specs.Faults.{Reports}
use Rattle.dom_syntax.specs.Places.{places_of}
use Rattle.dom_syntax.specs.Scopes.{theory_in}
use Rattle.dom_syntax.proofs.programs.check_procedure.Goals as goal

pub check_scope-checked-requires-clause-settled : goal.check_scope-checked-requires-clause-settled
check_scope-checked-requires-clause-settled c =
    subst (λ (b : Bool). OnTrue c.args.told.are_settled (b ≡ true))
    (λ j. procedure_settled (theory_in (sym c.in_ok-scope.ensures.1 j)).logic
    (procedure_of (sym c.in_ok-scope.ensures.2 j)))
    c.requires.settled

pub returns : goal.returns
returns c = λ earlier new.
    subst (λ (o : Option FileFault). Reports c.check_scope-checked.result o)
    (λ j. first_fault_at (places_of (theory_in (c.in_ok-scope.ensures.1 j)) earlier c.args.number
    (procedure_of (c.in_ok-scope.ensures.2 j))))
    (c.check_scope-checked.ensures earlier
    ((λ j. not (list_any (λ g. bytes_eq (procedure_of (c.in_ok-scope.ensures.2 j)).name g.name)
    earlier)) ∙ new))
