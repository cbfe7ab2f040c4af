use Rattle.std.proofs.Common.{◌≡◌, ◌∙◌, sym, refl, ℕ, List, length, Option, Some, None, Bor, arith}
use Rattle.std.specs.List.{slice_get}
use Rattle.std.specs.Option.{option_copied}
use Rattle.std.specs.Slice.{IsGetResult}
use Rattle.std.proofs.lemmas.Option.{slice_get_past, slice_get_read}
use Rattle.theory_syntax.specs.declared.steps.Step.{Step}
use Rattle.cited_steps.proofs.Numbers.{none_is_zero, at_its_place}
use Rattle.cited_steps.proofs.citations.step_numbered.Goals as goal

-- what is got at a place of the slice
got : (steps : List Step) (k : ℕ) (found : Option (Bor Step)) → IsGetResult steps k k found
    → option_copied found ≡ slice_get steps k
got steps k None h = sym (slice_get_past steps k h.3)
got steps k (Some x) h = sym (slice_get_read steps (length steps) k x.now refl h.3.0 h.1)

pub returns-in_err-place : goal.returns-in_err-place
returns-in_err-place c =
    rw c.from_residual.ensures
    (sym (none_is_zero c.args.steps.now c.args.number
    (omega (arith, c.in_err-place.ensures)) c.requires))

pub returns : goal.returns
returns c =
    got c.args.steps.now c.in_ok-place.place c.get.result c.get.ensures.lookup
    ∙ sym (at_its_place c.args.steps.now c.args.number c.in_ok-place.place
    (omega (arith, c.in_ok-place.ensures)) c.requires)
