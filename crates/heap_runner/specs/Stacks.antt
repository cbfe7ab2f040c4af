-- Needn't be believed: the contracts of private functions alone speak of it. What contracts see of
-- the pieces that are pending.
use Rattle.std.specs.Prelude.{ℕ, List, refl}
use Rattle.std.specs.Coded.{Coded, code_by, coded×, coded_list, coded_ℕ}
use Rattle.dom_meaning.specs.declared.configurations.Pending.{Pending}
use Rattle.dom_meaning.specs.contracts.configurations.Pending as pending

-- the pieces, the first one first, and for how many there is room
pub record StackView : Type 0 where
  pub pieces : List Pending
  pub room : ℕ

-- how they are kept
abbrev pub stack_code : Coded StackView
stack_code =
    code_by (List Pending × ℕ) (coded× (coded_list pending.the_row.coded) coded_ℕ)
    (λ view. (view.pieces, view.room)) (λ pair. record { pieces = pair.0; room = pair.1 })
    (λ _. refl)
