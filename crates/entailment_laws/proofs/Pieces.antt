-- What an application asks, from its pieces.
use Rattle.model_formulas.specs.Formulas.{Formula, application}
use Rattle.model_formulas.specs.Satisfaction.{Environment, Meets}
use Rattle.model_shapes.specs.Shapes.{Same, Shaped}
use Rattle.model_shapes.specs.Sorts.{DataSort, Sort, context, with_outer, outer}
use Rattle.model_shapes.specs.Trees.{Trees, fill}

-- a piece in a context
pub put_in : (h : DataSort) (s : Sort) (r : Trees) (k p : Formula) (e : Environment) (c d : Trees)
    → Shaped (context h (outer s)) c → Shaped (with_outer h s) d → Same s r (fill c d)
    → Meets k e (context h (outer s)) c → Meets p e (with_outer h s) d
    → Meets (application h k p) e s r
put_in h s r k p e c d wc wd same mc md = λ n. n (c, wc, λ m. m (d, wd, (same, mc, md)))
