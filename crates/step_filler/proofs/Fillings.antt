-- How large a filling is, and what it is without names.
use Rattle.std.proofs.Common.{◌≡◌, ◌∙◌, ◌+◌, ◌≤◌, ◌<◌, refl, ap, sym, subst, arith}
use Rattle.model_formulas.specs.Formulas.{Named, whole, hole_left, hole_right, node_formula, one_tree, one_root, concatenation, grove_sum, grove_sum_hole}
use Rattle.model_formulas.specs.Nameless.{nameless}
use Rattle.model_formulas.specs.Parts.{parts}
use Rattle.model_formulas.specs.SameFormulas.{same_formula}
use Rattle.assistant_laws.specs.ConjunctPlans.{same_named}
use Rattle.assistant_laws.specs.Fillings.{filling}
use Rattle.assistant_laws.proofs.Ways.{bare}

pub parts_of_filling : (b c : Named) → parts (filling b c) ≤ parts b + parts c
parts_of_filling b (node_formula name number c list) = omega (arith, parts_of_filling b c)
parts_of_filling b (one_tree c) = omega (arith, parts_of_filling b c)
parts_of_filling b (one_root c) = omega (arith, parts_of_filling b c)
parts_of_filling b (concatenation hole_left c q) = omega (arith, parts_of_filling b c)
parts_of_filling b (concatenation hole_right q c) = omega (arith, parts_of_filling b c)
parts_of_filling b (grove_sum_hole c q) = omega (arith, parts_of_filling b c)
parts_of_filling b c = omega arith

pub small_filling : (b c p : Named) → p ≡ filling b c → parts b + parts c < 4294967295
    → parts p < 4294967295
small_filling b c p is small = subst (λ (f : Named). parts f < 4294967295) (sym is)
    (omega (arith, parts_of_filling b c, small))

without_names : (b c : Named) → filling (nameless b) (nameless c) ≡ nameless (filling b c)
without_names b (node_formula name number c list) =
    ap (λ p. node_formula (bare name) (bare number) p (bare list)) (without_names b c)
without_names b (one_tree c) = ap one_tree (without_names b c)
without_names b (one_root c) = ap one_root (without_names b c)
without_names b (concatenation hole_left c q) =
    ap (λ p. concatenation whole p (nameless q)) (without_names b c)
without_names b (concatenation hole_right q c) =
    ap (λ p. concatenation whole (nameless q) p) (without_names b c)
without_names b (grove_sum_hole c q) = ap (λ p. grove_sum p (nameless q)) (without_names b c)
without_names b c = refl

pub same_filling : (b c p q : Named) → p ≡ filling b c
    → same_named p q ≡ same_formula (filling (nameless b) (nameless c)) (nameless q)
same_filling b c p q is =
    ap (λ f. same_named f q) is
    ∙ ap (λ f. same_formula f (nameless q)) (sym (without_names b c))
