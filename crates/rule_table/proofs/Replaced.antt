-- The row eq_subst as a test that goes through two formulas at once: its conclusions are those to
-- which the test says yes.
use Rattle.std.specs.Prelude.{Bool, true, false, ◌&&◌, ◌||◌}
use Rattle.model_shapes.specs.Tests.{same_data_sort, same_sort}
use Rattle.model_terms.specs.Terms.{Term, sum, difference, appended, raised}
use Rattle.model_formulas.specs.Formulas.{Formula, truth, falsity, conjunction, disjunction, implication, negation, existential, universal, equality, at_most, empty, bare_hole, node_formula, one_tree, one_root, concatenation, grove_sum, grove_sum_hole, application, hole_adjoint, context_adjoint, same_as, length_is, value_meets}
use Rattle.model_formulas.specs.SameFormulas.{same_term, same_side}

-- the same term, or `b` for `a`
abbrev pub same_or : Term → Term → Term → Term → Bool
same_or a b t u = same_term t u || (same_term t a && same_term u b)

-- the second term has `b` in place of some occurrences of `a` in the first
abbrev pub replaced_term : Term → Term → Term → Term → Bool
replaced_term a b (sum t t') (sum u u') =
    same_or a b (sum t t') (sum u u') || (replaced_term a b t u && replaced_term a b t' u')
replaced_term a b (difference t t') (difference u u') =
    same_or a b (difference t t') (difference u u')
    || (replaced_term a b t u && replaced_term a b t' u')
replaced_term a b (appended t t') (appended u u') =
    same_or a b (appended t t') (appended u u')
    || (replaced_term a b t u && replaced_term a b t' u')
replaced_term a b t u = same_or a b t u

-- the second formula has `b` in place of some occurrences of `a` as a term in the first
abbrev pub replaced : Term → Term → Formula → Formula → Bool
replaced a b truth truth = true
replaced a b falsity falsity = true
replaced a b (conjunction p q) (conjunction p' q') = replaced a b p p' && replaced a b q q'
replaced a b (disjunction p q) (disjunction p' q') = replaced a b p p' && replaced a b q q'
replaced a b (implication p q) (implication p' q') = replaced a b p p' && replaced a b q q'
replaced a b (negation p) (negation p') = replaced a b p p'
replaced a b (existential s p) (existential s' p') =
    same_sort s s' && replaced (raised a) (raised b) p p'
replaced a b (universal s p) (universal s' p') =
    same_sort s s' && replaced (raised a) (raised b) p p'
replaced a b (equality t u) (equality t' u') = replaced_term a b t t' && replaced_term a b u u'
replaced a b (at_most t u) (at_most t' u') = replaced_term a b t t' && replaced_term a b u u'
replaced a b (empty k) (empty k') = same_data_sort k k'
replaced a b (bare_hole k) (bare_hole k') = same_data_sort k k'
replaced a b (node_formula n i p l) (node_formula n' i' p' l') =
    replaced_term a b n n'
    && (replaced_term a b i i' && (replaced a b p p' && replaced_term a b l l'))
replaced a b (one_tree p) (one_tree p') = replaced a b p p'
replaced a b (one_root p) (one_root p') = replaced a b p p'
replaced a b (concatenation d p q) (concatenation d' p' q') =
    same_side d d' && (replaced a b p p' && replaced a b q q')
replaced a b (grove_sum p q) (grove_sum p' q') = replaced a b p p' && replaced a b q q'
replaced a b (grove_sum_hole p q) (grove_sum_hole p' q') = replaced a b p p' && replaced a b q q'
replaced a b (application h p q) (application h' p' q') =
    same_data_sort h h' && (replaced a b p p' && replaced a b q q')
replaced a b (hole_adjoint p q) (hole_adjoint p' q') = replaced a b p p' && replaced a b q q'
replaced a b (context_adjoint k p q) (context_adjoint k' p' q') =
    same_data_sort k k' && (replaced a b p p' && replaced a b q q')
replaced a b (same_as t) (same_as t') = same_term t t'
replaced a b (length_is t) (length_is t') = replaced_term a b t t'
replaced a b (value_meets s t p) (value_meets s' t' p') =
    same_sort s s' && (same_term t t' && replaced a b p p')
replaced a b p q = false
