-- Worked verdicts of the rows of monotony, at shapes and at contexts.
use Rattle.std.proofs.Common.{◌≡◌, refl, ⊎_elim, inl, [], ◌∷◌, Option, Some, None, codes}
use Rattle.model_shapes.specs.Sorts.{DataSort, shape, context, tree, forest}
use Rattle.model_formulas.specs.Formulas.{truth, bare_hole, empty, one_tree, application}
use Rattle.model_commands.specs.Theories.{entails}
use Rattle.rule_table.specs.Letters.{Letters, sort_at}
use Rattle.rule_table.specs.Verdicts.{IsVerdict, instance_verdict, premises_verdict}
use Rattle.rule_table.proofs.SomeLetters.{a_step, readings_of, plain_letters}

-- <true> entails <true> at f, from true entails true at t
pub tree_at_a_shape : IsVerdict (readings_of (codes "mono_tree"))
    (a_step [] (entails truth truth (shape tree) ∷ [])
    (entails (one_tree truth) (one_tree truth) (shape forest)))
    instance_verdict
tree_at_a_shape = inl (record plain_letters { o = None }, (((refl, tt, refl), refl), tt))

-- <?t> entails <true> at tf, from ?t entails true at tt
pub tree_at_a_context : IsVerdict (readings_of (codes "mono_tree"))
    (a_step [] (entails (bare_hole tree) truth (context tree tree) ∷ [])
    (entails (one_tree (bare_hole tree)) (one_tree truth) (context tree forest)))
    instance_verdict
tree_at_a_context = inl (
  record plain_letters { P = bare_hole tree; Q = truth; o = Some tree },
  (((refl, tt, refl), refl), tt),
)

-- but not from ?t entails true at t
pub tree_from_a_shape : IsVerdict (readings_of (codes "mono_tree"))
    (a_step [] (entails (bare_hole tree) truth (shape tree) ∷ [])
    (entails (one_tree (bare_hole tree)) (one_tree truth) (context tree forest)))
    premises_verdict
tree_from_a_shape = (
  inl (record plain_letters { P = bare_hole tree; Q = truth; o = Some tree }, (refl, tt, refl)),
  λ m. ⊎_elim (λ a. wrong a.0 a.1.0.2 a.1.1) (λ n. n) m,
)
  where
    wrong : (l : Letters)
        → entails (one_tree l.P) (one_tree l.Q) (sort_at l.o forest)
        ≡ entails (one_tree (bare_hole tree)) (one_tree truth) (context tree forest)
        → Some (entails l.P l.Q (sort_at l.o tree) ∷ [])
        ≡ Some (entails (bare_hole tree) truth (shape tree) ∷ []) → ⊥
    wrong l e q =
        let f : sort_at l.o forest ≡ context tree forest = cc in
        let g : sort_at l.o tree ≡ shape tree = cc in
        by_hole l.o f g
      where
        by_hole : (o : Option DataSort) → sort_at o forest ≡ context tree forest
            → sort_at o tree ≡ shape tree → ⊥
        by_hole None f g = cc
        by_hole (Some h) f g = cc

-- (?f @f 0f) entails (true @f true) at f
pub application_at_a_shape : IsVerdict (readings_of (codes "mono_app"))
    (a_step []
    (entails (bare_hole forest) truth (context forest forest) ∷ entails (empty forest) truth
    (shape forest) ∷ [])
    (entails (application forest (bare_hole forest) (empty forest)) (application forest truth truth)
    (shape forest)))
    instance_verdict
application_at_a_shape = inl (
  record plain_letters {
    K = bare_hole forest;
    H = truth;
    P = empty forest;
    Q = truth;
    o = None;
    h = forest;
    k = forest;
  },
  (((refl, tt, refl), refl), tt),
)

-- (?f @f <?t>) entails (true @f true) at tf
pub application_at_a_context : IsVerdict (readings_of (codes "mono_app"))
    (a_step []
    (entails (bare_hole forest) truth (context forest forest)
    ∷ entails (one_tree (bare_hole tree)) truth (context tree forest) ∷ [])
    (entails (application forest (bare_hole forest) (one_tree (bare_hole tree)))
    (application forest truth truth) (context tree forest)))
    instance_verdict
application_at_a_context = inl (
  record plain_letters {
    K = bare_hole forest;
    H = truth;
    P = one_tree (bare_hole tree);
    Q = truth;
    o = Some tree;
    h = forest;
    k = forest;
  },
  (((refl, tt, refl), refl), tt),
)
