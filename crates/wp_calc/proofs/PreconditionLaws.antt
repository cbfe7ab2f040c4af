-- The formula that is written is the table's, and is met exactly where no run goes wrong.
use Rattle.std.proofs.Common.{◌≡◌, ◌↔◌, ◌∙◌, refl, sym, ap, subst, ◌+◌, ◌^◌, ◌≤◌, List, [], ◌∷◌, ◌++◌, true, ◌&&◌, length}
use Rattle.std.specs.List.{list_all}
use Rattle.std.proofs.lemmas.List.Folds.{list_all-append}
use Rattle.model_shapes.specs.Shapes.{Shaped}
use Rattle.model_shapes.specs.Sorts.{shape, grove}
use Rattle.model_shapes.specs.Trees.{Trees}
use Rattle.model_shapes.specs.Values.{Name}
use Rattle.model_terms.specs.Stores.{Store, ProperStore}
use Rattle.model_terms.specs.Variables.{Var}
use Rattle.model_formulas.specs.Formulas.{Named}
use Rattle.model_formulas.specs.Nameless.{nameless}
use Rattle.model_formulas.specs.Satisfaction.{Environment}
use Rattle.model_formulas.specs.Substitution.{gathered}
use Rattle.model_commands.specs.Commands.{Command}
use Rattle.model_commands.specs.CommandParts.{variables_of}
use Rattle.model_commands.specs.SortTests.{is_sorted}
use Rattle.model_commands.specs.Theories.{Theory, procedures_of}
use Rattle.model_files.specs.FileFaults.{IsWellFormedTheory}
use Rattle.model_files.proofs.WellFormedTheories.{well-formed-bodies}
use Rattle.model_weakest.specs.Straight.{is_straight}
use Rattle.model_weakest.specs.Weakest.{MeetsWith, MeetsWeakest}
use Rattle.model_weakest.specs.Written.{AreNew, AreNamed, is_logic, is_named, new_sorts, written}
use Rattle.weakest_laws.specs.Table.{weakest}
use Rattle.weakest_laws.proofs.WrittenExact.{written-tables, written-exact}
use Rattle.formula_syntax.specs.declared.formulas.Formula.{Formula}
use Rattle.formula_syntax.specs.declared.formulas.Formula.TheVariants as f
use Rattle.formula_syntax.specs.Formulas.{formula_of}

-- QUANTIFIERS of formulas of the program bind logic variables alone
abbrev binders : Named → List Var
binders = gathered [] ◌++◌ (λ a. []) ◌∷◌

two : (xs ys : List Var) → list_all is_logic xs ≡ true → list_all is_logic ys ≡ true
    → list_all is_logic (xs ++ ys) ≡ true
two xs ys h k = list_all-append is_logic xs ys ∙ (λ j. h j && k j)

quantified : (p : Formula) → list_all is_logic (binders (formula_of p)) ≡ true
quantified f.True = refl
quantified f.False = refl
quantified (f.And' x p y q) =
    two (binders (formula_of p)) (binders (formula_of q)) (quantified p) (quantified q)
quantified (f.Or' x p y q) =
    two (binders (formula_of p)) (binders (formula_of q)) (quantified p) (quantified q)
quantified (f.Imp' x p y q) =
    two (binders (formula_of p)) (binders (formula_of q)) (quantified p) (quantified q)
quantified (f.Not' x p) = quantified p
quantified (f.Exists' v x p) = quantified p
quantified (f.Forall' v x p) = quantified p
quantified (f.Eq a b) = refl
quantified (f.Le a b) = refl
quantified f.EmptyForest = refl
quantified f.EmptyGrove = refl
quantified (f.Hole h) = refl
quantified (f.Node' n i x p l) = two (binders (formula_of p)) [] (quantified p) refl
quantified (f.One' x p) = quantified p
quantified (f.Root' x p) = quantified p
quantified (f.Join' side x p y q) =
    two (binders (formula_of p)) (binders (formula_of q)) (quantified p) (quantified q)
quantified (f.Plus' x p y q) =
    two (binders (formula_of p)) (binders (formula_of q)) (quantified p) (quantified q)
quantified (f.PlusHole' x p y q) =
    two (binders (formula_of p)) (binders (formula_of q)) (quantified p) (quantified q)
quantified (f.App' h x p y q) =
    two (binders (formula_of p)) (binders (formula_of q)) (quantified p) (quantified q)
quantified (f.HoleAdj' x p y q) =
    two (binders (formula_of p)) (binders (formula_of q)) (quantified p) (quantified q)
quantified (f.CtxAdj' k x p y q) =
    two (binders (formula_of p)) (binders (formula_of q)) (quantified p) (quantified q)
quantified (f.Var v) = refl
quantified (f.Len a) = refl
quantified (f.Is' v x p) = quantified p

pub are-named : (declared : List Var) (post : Formula)
    → list_all (is_named declared) (variables_of (formula_of post)) ≡ true
    → AreNamed declared (formula_of post)
are-named declared post h = record { known = h; quantified = quantified post }

module _ (theory : Theory) (c : Command) (post : Formula) (names : List Name)
    (straight : is_straight c ≡ true) (sorted : is_sorted (procedures_of theory) c ≡ true)
    (known : list_all (is_named theory.logic) (variables_of (formula_of post)) ≡ true)
    (new : AreNew theory.logic 1 names)
    (room : 1 + length theory.logic + length names ≤ 2 ^ 64)
    (count : length names ≡ length (new_sorts c)) (p : Named)
    (is : p ≡ written names c (formula_of post)) where
  pub same-there : nameless p ≡ weakest c (nameless (formula_of post))
  same-there =
      ap nameless is
      ∙ written-tables (procedures_of theory) c straight sorted theory.logic 1 names new room count
      (formula_of post) (are-named theory.logic post known)

  pub exact-there : IsWellFormedTheory theory → (e : Environment) (store : Store)
      → ProperStore store → (roots : Trees) → Shaped (shape grove) roots
      → (MeetsWith (nameless p) e store roots
      ↔ MeetsWeakest (procedures_of theory) c (nameless (formula_of post)) e store roots)
  exact-there well e store proper roots shaped =
      let law = written-exact (procedures_of theory) (well-formed-bodies theory well) c straight
      sorted theory.logic 1 names new room count (formula_of post)
      (are-named theory.logic post known) e store proper roots shaped in
      subst (λ q. MeetsWith (nameless q) e store roots
      ↔ MeetsWeakest (procedures_of theory) c (nameless (formula_of post)) e store roots)
      (sym is) law
