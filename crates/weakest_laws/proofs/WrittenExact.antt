-- The laws of the written weakest preconditions, for names whose numbers are small. Of larger
-- numbers two may be written alike: `decimal` gives the last 64 digits.
use Rattle.std.proofs.Common.{◌≡◌, ◌↔◌, ℕ, ◌+◌, ◌^◌, ◌≤◌, List, true, length, sym, subst, arith}
use Rattle.model_shapes.specs.Shapes.{Shaped}
use Rattle.model_shapes.specs.Sorts.{shape, grove}
use Rattle.model_shapes.specs.Trees.{Trees}
use Rattle.model_shapes.specs.Values.{Name}
use Rattle.model_terms.specs.Stores.{Store, ProperStore}
use Rattle.model_terms.specs.Variables.{Var}
use Rattle.model_formulas.specs.Formulas.{Named}
use Rattle.model_formulas.specs.Nameless.{nameless}
use Rattle.model_formulas.specs.Satisfaction.{Environment}
use Rattle.model_commands.specs.Commands.{Command}
use Rattle.model_commands.specs.SortTests.{BodiesSorted, is_sorted}
use Rattle.model_commands.specs.Theories.{Procedures}
use Rattle.model_weakest.specs.Straight.{is_straight}
use Rattle.model_weakest.specs.Weakest.{MeetsWith, MeetsWeakest}
use Rattle.model_weakest.specs.Written.{AreNew, AreNamed, new_sorts, written}
use Rattle.weakest_laws.specs.Table.{weakest}
use Rattle.weakest_laws.proofs.Exact.{weakest-exact}
use Rattle.weakest_laws.proofs.NumberedNames.{new-distinct, new-avoided}
use Rattle.weakest_laws.proofs.WrittenCommands.{command-written}

-- the formula that is written is the table's
pub written-tables : (ps : Procedures) (c : Command) → is_straight c ≡ true
    → is_sorted ps c ≡ true → (declared : List Var) (n : ℕ) (names : List Name)
    → AreNew declared n names → n + length declared + length names ≤ 2 ^ 64
    → length names ≡ length (new_sorts c) → (q : Named) → AreNamed declared q
    → nameless (written names c q) ≡ weakest c (nameless q)
written-tables ps c straight fits declared n names new small enough q are =
    (command-written ps c straight fits names (new-distinct declared n names new small)
    (omega (arith, enough)) q (new-avoided declared n names new q are)).0

-- and is met where no run of the command goes wrong
pub written-exact : (ps : Procedures) → BodiesSorted ps → (c : Command) → is_straight c ≡ true
    → is_sorted ps c ≡ true → (declared : List Var) (n : ℕ) (names : List Name)
    → AreNew declared n names → n + length declared + length names ≤ 2 ^ 64
    → length names ≡ length (new_sorts c) → (q : Named) → AreNamed declared q
    → (e : Environment) (st : Store) → ProperStore st → (g : Trees) → Shaped (shape grove) g
    → (MeetsWith (nameless (written names c q)) e st g ↔ MeetsWeakest ps c (nameless q) e st g)
written-exact ps bodies c straight fits declared n names new small enough q are e st proper g w =
    subst (λ p. MeetsWith p e st g ↔ MeetsWeakest ps c (nameless q) e st g)
    (sym (written-tables ps c straight fits declared n names new small enough q are))
    (weakest-exact ps bodies c straight fits (nameless q) e st proper g w)
