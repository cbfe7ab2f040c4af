-- The judgement of a formula on a table is whether the grove meets it.
use Rattle.std.proofs.Common.{◌≡◌, ◌∙◌, ℕ, Bool, true, false, None, Ok, List, take, sym, subst}
use Rattle.model_shapes.specs.Sorts.{Sort, shape, grove}
use Rattle.model_shapes.specs.Values.{Value}
use Rattle.model_shapes.specs.Shapes.{Shaped}
use Rattle.model_shapes.specs.Trees.{Trees}
use Rattle.model_shapes.proofs.Truth.{false≢true}
use Rattle.model_terms.specs.Stores.{Store}
use Rattle.model_formulas.specs.Formulas.{Named}
use Rattle.model_formulas.specs.WellSorted.{first_fault}
use Rattle.model_watch.specs.Watchable.{IsWatchable}
use Rattle.model_watch.specs.Watching.{Values, holds, store_alone}
use Rattle.model_watch.proofs.Ranges.{decided_by}
use Rattle.dom_watch.specs.Watched.{TellsMet}
use Rattle.dom_watch.specs.declared.rows.Row.{Row}
use Rattle.dom_watch.specs.declared.bindings.Bindings.TheVariants as bindings
use Rattle.dom_watch.specs.Rows.{Shows, values_at}
use Rattle.dom_watch.specs.Judged.{Tells}
use Rattle.dom_watch.specs.Tables.{Tabled}

pub met : (values : Sort → List Value) (p : Named) (store : Store) (g : Trees) (told : Bool)
    → Values values g → IsWatchable p → first_fault p (shape grove) ≡ None
    → Shaped (shape grove) g → told ≡ holds values p (store_alone store) g
    → TellsMet told p store g
met values p store g true v w s o e =
    λ env. (decided_by values p store env g v w s o).so (sym e)
met values p store g false v w s o e =
    λ env m. false≢true {P = ⊥} (e ∙ (decided_by values p store env g v w s o).back m)

module _ (all : List Row) (roots : ℕ) (g : Trees) (t : Tabled all roots g) (a b : List Row)
    (same : a ≡ all) (also : b ≡ all)
  where
    -- what the judge is given
    pub roots_shown : Shows a (take roots b) g
    roots_shown =
        subst (λ z. Shows z (take roots b) g) (sym same)
        (subst (λ z. Shows all (take roots z) g) (sym also) t.shows)

    -- THE ANSWER of the judge is that of satisfaction
    pub met_on_table : (p : Named) (store : Store) (told : Bool) → IsWatchable p
        → first_fault p (shape grove) ≡ None → Shaped (shape grove) g
        → Tells a store bindings.Empty p (take roots b) (Ok told) → TellsMet told p store g
    met_on_table p store told w s o judged =
        met (values_at a) p store g told (subst (λ z. Values (values_at z) g) (sym same) t.serves)
        w s o (judged g roots_shown)
