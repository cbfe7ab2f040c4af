use Rattle.std.proofs.Common.{◌≡◌, ◌≤◌, ◌<◌, ◌-◌, List, [], ◌∷◌, length, map, take, drop, get_or, subst, arith}
use Rattle.std.proofs.lemmas.List.{take_rest}
use Rattle.computed_rules.specs.Forms.{Adds}
use Rattle.computed_rules.specs.Linear.{total, weighed}
use Rattle.computed_rules.specs.Sums.{comparison_of}
use Rattle.computed_rules.specs.declared.comparisons.Comparison.{Comparison}
use Rattle.computed_rules.specs.declared.forms.LinearForm.{LinearForm}
use Rattle.computed_rules.proofs.SumLaws.{adds-nothing, adds-both}
use Rattle.computed_rules.proofs.sums.add_all.Goals as goal

-- none is left
none_adds : (form : LinearForm) (cs : List Comparison) → length cs < 1
    → Adds form form (total (map comparison_of cs))
none_adds form [] few = adds-nothing form
none_adds form (c ∷ cs) few = absurd (omega arith)

-- the first one, and those behind it
first_adds : (a b last : LinearForm) (cs : List Comparison) (c : Comparison) → 1 ≤ length cs
    → c ≡ get_or cs 0 c → Adds a b (weighed (comparison_of c))
    → Adds b last (total (map comparison_of (take (length cs - 1) (drop 1 cs))))
    → Adds a last (total (map comparison_of cs))
first_adds a b last [] c some is h k = absurd (omega arith)
first_adds a b last (d ∷ cs) c some is h k =
    adds-both a b last (weighed (comparison_of d)) (total (map comparison_of cs))
    (subst (λ e. Adds a b (weighed (comparison_of e))) is h)
    (subst (λ ds. Adds b last (total (map comparison_of ds))) (take_rest (d ∷ cs) 1) k)

pub comparisons-preserved : goal.comparisons-preserved
comparisons-preserved c = record {
  leads = λ last k. c.comparisons.invariant.leads last
      (first_adds c.comparisons.form c.add_weighed.new.form last c.comparisons.rest.now
      c.comparison-item.result c.in-len1-up.len_at_least c.comparison-item.is
      c.in_ok-add_weighed.ensures k);
}

pub returns : goal.returns
returns c =
    c.comparisons.invariant.leads c.comparisons.form
    (none_adds c.comparisons.form c.comparisons.rest.now c.in_default.len_below)
