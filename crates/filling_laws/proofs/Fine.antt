-- Formulas that are well sorted and have variables that pass a test: how that goes to their parts
-- and back.
use Rattle.std.proofs.Common.{◌≡◌, ◌∙◌, Bool, true, ◌&&◌, List, [], ◌++◌, refl, sym, ap₂}
use Rattle.std.specs.List.{list_all}
use Rattle.std.proofs.lemmas.List.Folds.{list_all-append}
use Rattle.model_shapes.specs.Sorts.{Sort, shape, tree, forest, grove}
use Rattle.model_terms.specs.Variables.{Var}
use Rattle.model_terms.specs.Terms.{Term}
use Rattle.model_formulas.specs.Formulas.{Named, whole, empty, conjunction, node_formula, one_tree, one_root, concatenation, grove_sum}
use Rattle.model_formulas.specs.Substitution.{gathered}
use Rattle.model_formulas.specs.WellSorted.{flags}
use Rattle.assistant_laws.specs.FormPlans.{tidied, absorbed, absorbed_roots}
use Rattle.assistant_laws.proofs.Ways.{both_true}

abbrev pub AllPass : List Bool → Type 0
AllPass flags = list_all (λ flag. flag) flags ≡ true

module _ {A : Type 0} (t : A → Bool) where
  pub passes-both : (xs ys : List A) → list_all t xs ≡ true → list_all t ys ≡ true
      → list_all t (xs ++ ys) ≡ true
  passes-both xs ys a b = list_all-append t xs ys ∙ ap₂ (λ x y. x && y) a b

  pub passes-parts : (xs ys : List A) → list_all t (xs ++ ys) ≡ true
      → (list_all t xs ≡ true) × (list_all t ys ≡ true)
  passes-parts xs ys e = both_true _ _ (sym (list_all-append t xs ys) ∙ e)

module _ {A : Type 0} (f : Term → List A) (g : Var → List A → List A) (t : A → Bool) where
  -- what is gathered of a formula
  abbrev pub marks : Named → List A
  marks = gathered [] ◌++◌ f g

  -- well sorted at the sort, with marks that pass the test
  pub record Fine (p : Named) (s : Sort) : Type 0 where
    pub sorted : AllPass (flags p s)
    pub variables : list_all t (marks p) ≡ true

  pub two-fine : (p q : Named) (s : Sort) → Fine p s → Fine q s
      → AllPass (flags p s ++ flags q s) × (list_all t (marks p ++ marks q) ≡ true)
  two-fine p q s x y = (
    passes-both (λ flag. flag) (flags p s) (flags q s) x.sorted y.sorted,
    passes-both t (marks p) (marks q) x.variables y.variables,
  )

  pub fine-two : (p q : Named) (s : Sort) → AllPass (flags p s ++ flags q s)
      → list_all t (marks p ++ marks q) ≡ true → Fine p s × Fine q s
  fine-two p q s e f =
      let a = passes-parts (λ flag. flag) (flags p s) (flags q s) e in
      let b = passes-parts t (marks p) (marks q) f in
      (record { sorted = a.0; variables = b.0 }, record { sorted = a.1; variables = b.1 })

  -- AND
  pub and-parts : (p q : Named) (s : Sort) → Fine (conjunction p q) s → Fine p s × Fine q s
  and-parts p q s x = fine-two p q s (both_true _ _ x.sorted).1 x.variables

  -- FORESTS
  pub star-fine : (p q : Named) → Fine p (shape forest) → Fine q (shape forest)
      → Fine (concatenation whole p q) (shape forest)
  star-fine p q x y = let z = two-fine p q (shape forest) x y in
      record { sorted = z.0; variables = z.1 }

  pub star-parts : (p q : Named) → Fine (concatenation whole p q) (shape forest)
      → Fine p (shape forest) × Fine q (shape forest)
  star-parts p q x = fine-two p q (shape forest) x.sorted x.variables

  pub no-tree-fine : Fine (empty forest) (shape forest)
  no-tree-fine = record { sorted = refl; variables = refl }

  pub one-fine : (p : Named) → Fine p (shape tree) → Fine (one_tree p) (shape forest)
  one-fine p x = record { sorted = x.sorted; variables = x.variables }

  pub one-part : (p : Named) → Fine (one_tree p) (shape forest) → Fine p (shape tree)
  one-part p x = record { sorted = x.sorted; variables = x.variables }

  -- GROVES
  pub plus-fine : (p q : Named) → Fine p (shape grove) → Fine q (shape grove)
      → Fine (grove_sum p q) (shape grove)
  plus-fine p q x y = let z = two-fine p q (shape grove) x y in
      record { sorted = z.0; variables = z.1 }

  pub plus-parts : (p q : Named) → Fine (grove_sum p q) (shape grove)
      → Fine p (shape grove) × Fine q (shape grove)
  plus-parts p q x = fine-two p q (shape grove) x.sorted x.variables

  pub no-root-fine : Fine (empty grove) (shape grove)
  no-root-fine = record { sorted = refl; variables = refl }

  pub root-fine : (p : Named) → Fine p (shape tree) → Fine (one_root p) (shape grove)
  root-fine p x = record { sorted = x.sorted; variables = x.variables }

  pub root-part : (p : Named) → Fine (one_root p) (shape grove) → Fine p (shape tree)
  root-part p x = record { sorted = x.sorted; variables = x.variables }

  -- NODES: one of the same terms, with another inside
  module _ (name number list : Term) where
    pub node-part : (p : Named) → Fine (node_formula name number p list) (shape tree)
        → Fine p (shape forest)
    node-part p x =
        let inner = passes-parts t (f name) _ x.variables in
        let deeper = passes-parts t (f number) _ inner.1 in
        record {
          sorted = (both_true _ _ x.sorted).1;
          variables = (passes-parts t (marks p) (f list) deeper.1).0;
        }

    pub node-fine : (p q : Named) → Fine (node_formula name number p list) (shape tree)
        → Fine q (shape forest) → Fine (node_formula name number q list) (shape tree)
    node-fine p q x y =
        let inner = passes-parts t (f name) _ x.variables in
        let deeper = passes-parts t (f number) _ inner.1 in
        let last = (passes-parts t (marks p) (f list) deeper.1).1 in
        record {
          sorted = ap₂ (λ a b. a && b) (both_true _ _ x.sorted).0 y.sorted;
          variables = passes-both t (f name) _ inner.0
              (passes-both t (f number) _ deeper.0
              (passes-both t (marks q) (f list) y.variables last));
        }

  -- FORMS
  mutual
    pub tidied-fine : (p : Named) → Fine p (shape tree) → Fine (tidied p) (shape tree)
    tidied-fine (node_formula name number p list) x =
        node-fine name number list p (absorbed p (empty forest)) x
        (absorbed-fine p (empty forest) (node-part name number list p x) no-tree-fine)
    tidied-fine p x = x

    pub absorbed-fine : (p r : Named) → Fine p (shape forest) → Fine r (shape forest)
        → Fine (absorbed p r) (shape forest)
    absorbed-fine (empty forest) r x y = y
    absorbed-fine (concatenation whole p q) r x y =
        let parts = star-parts p q x in
        absorbed-fine p (absorbed q r) parts.0 (absorbed-fine q r parts.1 y)
    absorbed-fine (one_tree p) r x y =
        star-fine (one_tree (tidied p)) r (one-fine (tidied p) (tidied-fine p (one-part p x))) y
    absorbed-fine p r x y = star-fine p r x y

  pub absorbed_roots-fine : (p r : Named) → Fine p (shape grove) → Fine r (shape grove)
      → Fine (absorbed_roots p r) (shape grove)
  absorbed_roots-fine (empty grove) r x y = y
  absorbed_roots-fine (grove_sum p q) r x y =
      let parts = plus-parts p q x in
      absorbed_roots-fine p (absorbed_roots q r) parts.0 (absorbed_roots-fine q r parts.1 y)
  absorbed_roots-fine (one_root p) r x y =
      plus-fine (one_root (tidied p)) r (root-fine (tidied p) (tidied-fine p (root-part p x))) y
  absorbed_roots-fine p r x y = plus-fine p r x y
