-- The row eq_subst by its test: the conclusions of the row are those to which the test says yes.
use Rattle.std.proofs.Common.{Option, ◌≡◌, ℕ, refl, sym, ap, ◌∙◌, inl, ⊎_elim, List, [], codes, true}
use Rattle.model_shapes.specs.Sorts.{Sort, value, int_sort}
use Rattle.model_terms.specs.Variables.{Var, logic}
use Rattle.model_terms.specs.Terms.{Term, variable}
use Rattle.model_terms.specs.VariableTests.{var_eq}
use Rattle.model_formulas.specs.Formulas.{Formula, conjunction, equality}
use Rattle.model_formulas.specs.Substitution.{replacing}
use Rattle.model_formulas.specs.Deciding.{replacing_at}
use Rattle.model_commands.specs.Theories.{Judgement, entails}
use Rattle.rule_table.specs.Letters.{Letters, as_logic}
use Rattle.rule_table.specs.Notation.{instead}
use Rattle.rule_table.specs.Occurrences.{AsFormula}
use Rattle.rule_table.specs.Verdicts.{Written, Concludes, SomeLine}
use Rattle.rule_table.proofs.SomeLetters.{readings_of, plain_letters, left_in, right_in}
use Rattle.rule_table.proofs.Replacing.{Differ, replaced-formula}
use Rattle.rule_table.proofs.Placing.{Keeps, Place, place_of}
use Rattle.rule_table.proofs.NewNames.{new_name, new_name-new}
use Rattle.rule_table.proofs.Replaced.{replaced}

-- a term for a variable gives it there
replacing-gives : (x : Var) (t : Term) → replacing x t x ≡ t
replacing-gives x t = by_name (var_eq x x)
  where
    by_name : (d : Dec (x ≡ x)) → replacing_at t d ≡ t
    by_name (yes q) = refl
    by_name (no n) = absurd (n refl)

-- and keeps each other one
replacing-keeps : (x y : Var) (t : Term) → (y ≡ x → ⊥) → replacing x t y ≡ variable y
replacing-keeps x y t n = by_name (var_eq y x)
  where
    by_name : (d : Dec (y ≡ x)) → replacing_at t d ≡ variable y
    by_name (yes q) = absurd (n q)
    by_name (no m) = refl

keeps : (name : List ℕ) (s : Sort) (t : Term) → Keeps name s t (replacing (logic name s) t)
keeps name s t = record {
  gives = replacing-gives (logic name s) t;
  elsewhere = λ y n. replacing-keeps (logic name s) y t n;
}

differ : (name : List ℕ) (s : Sort) (a b : Term)
    → Differ name s a b (replacing (logic name s) a) (replacing (logic name s) b)
differ name s a b = record {
  first_at = replacing-gives (logic name s) a;
  second_at = replacing-gives (logic name s) b;
  elsewhere = λ y n.
      replacing-keeps (logic name s) y a n ∙ sym (replacing-keeps (logic name s) y b n);
}

module _ (a b : Term) (p q : Formula) (s : Sort) (o : Option (List Judgement)) where
  -- (a = b and p) entails q
  abbrev written : Written
  written = record {
    arguments = [];
    premises = o;
    conclusion = entails (conjunction (equality a b) p) q s;
  }

  -- where the test says yes, it is a conclusion of the row
  pub test-concludes : replaced a b p q ≡ true
      → SomeLine (readings_of (codes "eq_subst")) (Concludes written)
  test-concludes h =
      at (place_of (new_name p) (value int_sort) p q a b h (new_name-new p (value int_sort)))
    where
      at : Place (new_name p) (value int_sort) a b p q
          → SomeLine (readings_of (codes "eq_subst")) (Concludes written)
      at m = inl (
        record plain_letters {
          P = m.place;
          E = a;
          F = b;
          x = record { name = new_name p; sort = value int_sort };
          s = s;
        },
        (
          refl,
          (m.in_terms, tt),
          (λ i. entails
              (conjunction (equality a b)
              (m.first (replacing (logic (new_name p) (value int_sort)) a)
              (keeps (new_name p) (value int_sort) a) i))
              (m.second (replacing (logic (new_name p) (value int_sort)) b)
              (keeps (new_name p) (value int_sort) b) i)
              s),
        ),
      )

  -- and where it is one, the test says yes
  pub concludes-test : SomeLine (readings_of (codes "eq_subst")) (Concludes written)
      → replaced a b p q ≡ true
  concludes-test m =
      ⊎_elim (λ c. at c.0 c.1.1.0 (ap left_in c.1.2) (ap right_in c.1.2)) (λ n. absurd n) m
    where
      at : (l : Letters) → (AsFormula (as_logic l.x) l.P → ⊥)
          → ◌≡◌ {A = Formula} (conjunction (equality l.E l.F) (instead l.E l.x l.P))
          (conjunction (equality a b) p)
          → instead l.F l.x l.P ≡ q → replaced a b p q ≡ true
      at l n e g =
          let f : l.E ≡ a = cc in
          let h : l.F ≡ b = cc in
          let k : instead l.E l.x l.P ≡ p = cc in
          (λ i. replaced (sym f i) (sym h i) (sym k i) (sym g i))
          ∙ replaced-formula l.x.name l.x.sort l.P l.E l.F (replacing (as_logic l.x) l.E)
          (replacing (as_logic l.x) l.F)
          (differ l.x.name l.x.sort l.E l.F) n
