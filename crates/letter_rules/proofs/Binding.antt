-- When two existentials of one sort bind a variable of two formulas, by what is settled of it.
use Rattle.std.proofs.Common.{◌≡◌, true, refl, sym, ap, ◌∙◌, is_some, [], Option, Some, None}
use Rattle.model_shapes.specs.Sorts.{Sort}
use Rattle.model_shapes.proofs.Truth.{false≢true}
use Rattle.model_formulas.specs.Formulas.{Formula, existential}
use Rattle.model_formulas.specs.Substitution.{formula_with, closing}
use Rattle.rule_table.specs.Letters.{Letters, LogicVar, as_logic}
use Rattle.rule_table.specs.Notation.{for_some}
use Rattle.rule_table.proofs.SomeLetters.{plain_letters}
use Rattle.rule_patterns.specs.Letter.{FormulaLetter, P', Q', formula_at}
use Rattle.letter_bindings.specs.Known.{FormulaPlaces, Known, Says, Agrees, nothing, no_formulas, place_in}
use Rattle.letter_bindings.specs.Settled.{settle}
use Rattle.letter_bindings.specs.Choices.{IsBody, IsBodyAt, choice}
use Rattle.letter_bindings.proofs.EachLetter.{each-formula}
use Rattle.letter_bindings.proofs.Settling.{settled-agrees, settled-new, agrees-settles}
use Rattle.letter_bindings.proofs.RowVerdicts.{nothing-agrees}
use Rattle.letter_rules.specs.EliminateTests.{known_of}

-- THE VARIABLE that both existentials bind
pub record Bound (pre post p q : Formula) : Type 0 where
  pub x : LogicVar
  pub before : for_some x p ≡ pre
  pub behind : for_some x q ≡ post

-- in some formulas
pub record SomeBound (pre post : Formula) : Type 0 where
  pub p : Formula
  pub q : Formula
  pub bound : Bound pre post p q

-- of existentials of one sort over these
module _ (s : Sort) (before behind : Formula) where
  abbrev pre : Formula
  pre = existential s before

  abbrev post : Formula
  post = existential s behind

  abbrev belows : FormulaPlaces
  belows = record no_formulas { P = Some before; Q = Some behind }

  -- where nothing else is known
  abbrev alone : Known
  alone = record nothing { belows = belows; x_sort = Some s }

  binds : (x : LogicVar) (p below : Formula) → x.sort ≡ s
      → formula_with (closing (as_logic x)) p ≡ below → for_some x p ≡ existential s below
  binds x p below e f = λ i. existential (e i) (f i)

  bound-by : (l : Letters) → l.x.sort ≡ s → formula_with (closing (as_logic l.x)) l.P ≡ before
      → formula_with (closing (as_logic l.x)) l.Q ≡ behind → Bound pre post l.P l.Q
  bound-by l e f g = record {
    x = l.x;
    before = binds l.x l.P before e f;
    behind = binds l.x l.Q behind e g;
  }

  module _ (before-body : IsBody s before) (behind-body : IsBody s behind) where
    bodies : (a : FormulaLetter) → IsBodyAt (Some s) (place_in belows a)
    bodies = each-formula _ (before-body, behind-body, tt, tt, tt, tt, tt)

    -- they bind a variable of some formulas
    pub some-bound : SomeBound pre post
    some-bound =
        let found = settled-new alone bodies refl [] in
        let g : Agrees (choice alone found.0) alone = found.1 in
        record {
          p = (choice alone found.0).P;
          q = (choice alone found.0).Q;
          bound = bound-by (choice alone found.0) g.x_sort (g.belows P') (g.belows Q');
        }

    -- and of these, where it is settled
    module _ (p q : Formula) where
      abbrev known : Known
      known = known_of s p q before behind

      bound-of : (l : Letters) → Agrees l known → Bound pre post p q
      unfolding bound-by
      bound-of l g =
          let b = bound-by l g.x_sort (g.belows P') (g.belows Q') in
          record {
            x = l.x;
            before = (λ i. for_some l.x (sym (g.formulas P') i)) ∙ b.before;
            behind = (λ i. for_some l.x (sym (g.formulas Q') i)) ∙ b.behind;
          }

      pub settled-bound : is_some (settle known) ≡ true → Bound pre post p q
      settled-bound e = by_settled (settle known) refl e
        where
          by_settled : (o : Option (Option LogicVar)) → settle known ≡ o → is_some o ≡ true
              → Bound pre post p q
          by_settled None f e = false≢true e
          by_settled (Some None) f e =
              let found = settled-new known bodies f [] in bound-of (choice known found.0) found.1
          by_settled (Some (Some v)) f e =
              bound-of (choice known v) (settled-agrees known v bodies f)

  -- WHERE THEY DO, it is settled
  module _ (p q : Formula) (b : Bound pre post p q) where
    abbrev letters : Letters
    letters = record plain_letters { x = b.x; P = p; Q = q }

    sort : b.x.sort ≡ s
    sort = let e = b.before in cc

    below-before : formula_with (closing (as_logic b.x)) p ≡ before
    below-before = let e = b.before in cc

    below-behind : formula_with (closing (as_logic b.x)) q ≡ behind
    below-behind = let e = b.behind in cc

    formulas : (a : FormulaLetter) → Says (place_in (known_of s p q before behind).formulas a)
        (formula_at letters a)
    formulas = each-formula _ (refl, refl, tt, tt, tt, tt, tt)

    below : (a : FormulaLetter) → Says (place_in belows a)
        (formula_with (closing (as_logic b.x)) (formula_at letters a))
    below = each-formula _ (below-before, below-behind, tt, tt, tt, tt, tt)

    agrees : Agrees letters (known_of s p q before behind)
    agrees = record {
      formulas = formulas;
      belows = below;
      terms = (nothing-agrees letters).terms;
      datas = (nothing-agrees letters).datas;
      sort = tt;
      hole = tt;
      x = tt;
      x_sort = sort;
      put = tt;
    }

    pub bound-settles : is_some (settle (known_of s p q before behind)) ≡ true
    bound-settles =
        ap is_some (agrees-settles (known_of s p q before behind) tt letters agrees)
