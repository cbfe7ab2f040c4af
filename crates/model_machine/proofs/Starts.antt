-- A run begins with what fits, and a call begins as a run does.
use Rattle.std.proofs.Common.{◌≡◌, true, List, [], ◌∷◌, map, refl, ap}
use Rattle.model_shapes.specs.Sorts.{shape, grove}
use Rattle.model_shapes.specs.Trees.{Trees}
use Rattle.model_shapes.specs.Shapes.{Shaped}
use Rattle.model_shapes.specs.Values.{Value}
use Rattle.model_terms.specs.Terms.{Term}
use Rattle.model_terms.specs.Stores.{ProgVar, Store, ProperStore, set, value_of}
use Rattle.model_commands.specs.Theories.{Procedure, Procedures}
use Rattle.model_commands.specs.SortTests.{is_sorted}
use Rattle.model_machine.specs.Machine.{entering, holding_values, start}
use Rattle.model_machine.specs.Fitting.{ValuesFit, FitsConfig}
use Rattle.model_terms.proofs.StoreLaws.{unset-proper, set-proper}

-- values that fit make a proper store
holding-proper : (xs : List ProgVar) (vs : List Value) → ValuesFit xs vs
    → ProperStore (holding_values xs vs)
holding-proper [] [] f = unset-proper
holding-proper [] (v ∷ vs) f = absurd f
holding-proper (x ∷ xs) [] f = absurd f
holding-proper (x ∷ xs) (v ∷ vs) f =
    set-proper x v (holding_values xs vs) f.0 (holding-proper xs vs f.1)

-- what a run begins with fits
pub start-fits : (th : Procedures) (f : Procedure) (vs : List Value) (g : Trees)
    → is_sorted th f.body ≡ true → ValuesFit f.params vs → Shaped (shape grove) g
    → FitsConfig th (start f vs g)
start-fits th f vs g sorted fit w = record {
  pieces = (sorted, tt);
  fine = record { proper = holding-proper f.params vs fit; whole = w };
}

-- a call gives the parameters the values of the arguments, as a run does
pub entering-is : (xs : List ProgVar) (es : List Term) (st : Store)
    → entering xs es st ≡ holding_values xs (map (value_of st) es)
entering-is [] [] st = refl
entering-is [] (e ∷ es) st = refl
entering-is (x ∷ xs) [] st = refl
entering-is (x ∷ xs) (e ∷ es) st = ap (set x (value_of st e)) (entering-is xs es st)
