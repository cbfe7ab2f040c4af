-- Needn't be believed: the promises speak of the procedures alone. The procedures that a call may
-- enter, and how one is found by its name.
use Rattle.std.specs.Prelude.{◌≡◌, ℕ, cond, map, List, [], ◌∷◌, Option, Some, None, MatchOption, bytes_eq}
use Rattle.std.specs.Borrow.{Bor}
use Rattle.std.specs.Option.{option_map}
use Rattle.model_files.specs.Sizes.{ProceduresAreSmall}
use Rattle.name_table.specs.Found.{found}
use Rattle.name_table.specs.declared.tables.NameTable.{NameTable}
use Rattle.theory_syntax.specs.Theories.{procedure_of}
use Rattle.theory_syntax.specs.declared.theories.Procedure.{Procedure}
use Rattle.triple_rules.specs.declared.callees.Callees.{Callees}

-- the first procedure of the name
abbrev pub first_named : List ℕ → List Procedure → Option Procedure
first_named name [] = None
first_named name (f ∷ fs) = cond (bytes_eq name f.name) (Some f) (first_named name fs)

-- the procedure that a reference is to
abbrev pub procedure_at : Bor Procedure → Procedure
procedure_at f = f.now

-- the table has the first procedure of each name
abbrev pub Tells : NameTable (Bor Procedure) → List Procedure → Type 0
Tells table procedures =
    (name : List ℕ) → option_map procedure_at (found table name) ≡ first_named name procedures

-- the formulas of the procedures are small, and a table of names is that of the procedures
pub record AreReady (callees : Callees) : Type 0 where
  pub small : ProceduresAreSmall (map procedure_of callees.procedures.now)
  pub told : MatchOption callees.names Unit (λ table. Tells table.now callees.procedures.now)
