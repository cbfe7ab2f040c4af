-- Where what is written determines the line, the verdict is found by going through its conditions.
use Rattle.std.proofs.Common.{◌≡◌, ◌⊎◌, ℕ, suc, refl, sym, ap, ◌∙◌, subst, inl, inr, List, [], ◌∷◌, Option, Some, None}
use Rattle.model_commands.specs.Theories.{Judgement}
use Rattle.rule_table.specs.Letters.{Letters}
use Rattle.rule_table.specs.Lines.{Line}
use Rattle.rule_table.specs.Conditions.{Condition, Holds, SideName}
use Rattle.rule_table.specs.Entries.{Row}
use Rattle.rule_table.specs.Verdicts.{Written, Concludes, AllHold, first, side_at, SomeLine, Verdict, instance_verdict, shape_verdict, premises_verdict, side_verdict, IsVerdict}
use Rattle.rule_table.specs.Conditions.{side_of}

-- the line of each choice
abbrev pub Each_line : List Row → (Line → Type 0) → Type 0
Each_line [] P = Unit
Each_line (row ∷ rows) P = ((letters : Letters) → P (row letters)) × Each_line rows P

pub each-some-map : {P Q R : Line → Type 0} (rows : List Row) → Each_line rows P
    → ((line : Line) → P line → Q line → R line) → SomeLine rows Q → SomeLine rows R
each-some-map [] e f m = m
each-some-map (row ∷ rows) e f (inl a) = inl (a.0, f (row a.0) (e.0 a.0) a.1)
each-some-map (row ∷ rows) e f (inr m) = inr (each-some-map rows e.1 f m)

pub each-some : {P Q : Line → Type 0} {X : Type 0} (rows : List Row) → Each_line rows P
    → ((line : Line) → P line → Q line → X) → SomeLine rows Q → X
each-some [] e f m = absurd m
each-some (row ∷ rows) e f (inl a) = f (row a.0) (e.0 a.0) a.1
each-some (row ∷ rows) e f (inr m) = each-some rows e.1 f m

-- no choice has the written conclusion
abbrev pub refuted : (rows : List Row) (w : Written) → Each_line rows (λ line. Concludes w line → ⊥)
    → (v : Verdict) × IsVerdict rows w v
refuted rows w e = (shape_verdict, each-some rows e (λ line p q. p q))

-- the same premises and conditions
abbrev pub Like : Line → Line → Type 0
Like line other = (other.premises ≡ line.premises) × (other.conditions ≡ line.conditions)

-- some choice has the written conclusion, and each that has it makes a line like this one
pub record Determined (rows : List Row) (w : Written) (line : Line) : Type 0 where
  pub found : SomeLine rows (Concludes w)
  pub alone : Each_line rows (λ other. Concludes w other → Like line other)

-- each condition holds or not
abbrev pub Decided : List Condition → Type 0
Decided [] = Unit
Decided (c ∷ cs) = Dec (Holds c) × Decided cs

-- the first that doesn't hold
pub record Failing (cs : List Condition) : Type 0 where
  pub place : ℕ
  pub name : SideName
  pub named : side_at place cs ≡ Some name
  pub before : AllHold (first place cs)
  pub fails : AllHold (first (suc place) cs) → ⊥

abbrev later : (c : Condition) (cs : List Condition) → Holds c → Failing cs → Failing (c ∷ cs)
later c cs h f = record {
  place = suc f.place;
  name = f.name;
  named = f.named;
  before = (h, f.before);
  fails = λ a. f.fails a.1;
}

abbrev here : (c : Condition) (cs : List Condition) → (Holds c → ⊥) → Failing (c ∷ cs)
here c cs n = record { place = 0; name = side_of c; named = refl; before = tt; fails = λ a. n a.0 }

abbrev and_first : (c : Condition) (cs : List Condition) → Dec (Holds c)
    → AllHold cs ⊎ Failing cs → AllHold (c ∷ cs) ⊎ Failing (c ∷ cs)
and_first c cs (no n) r = inr (here c cs n)
and_first c cs (yes h) (inl r) = inl (h, r)
and_first c cs (yes h) (inr f) = inr (later c cs h f)

abbrev first_failing : (cs : List Condition) → Decided cs → AllHold cs ⊎ Failing cs
first_failing [] d = inl tt
first_failing (c ∷ cs) d = and_first c cs d.0 (first_failing cs d.1)

pub not_absent : ◌≡◌ {A = Option (List Judgement)} (Some []) None → ⊥
not_absent e = cc

pub not_some : (j : Judgement) (js : List Judgement) → Some [] ≡ Some (j ∷ js) → ⊥
not_some j js e = cc

-- the citations: none, where a row has no premises
abbrev pub none_cited : (o : Option (List Judgement)) → Dec (Some [] ≡ o)
none_cited None = no not_absent
none_cited (Some []) = yes refl
none_cited (Some (j ∷ js)) = no (not_some j js)

-- THE VERDICT: from the citations and the conditions
module _ (rows : List Row) (w : Written) (line : Line) (d : Determined rows w line) where
  abbrev by_conditions : Some line.premises ≡ w.premises
      → AllHold line.conditions ⊎ Failing line.conditions → (v : Verdict) × IsVerdict rows w v
  by_conditions e (inl all) = (
    instance_verdict,
    each-some-map rows d.alone
        (λ other p q. ((q, ap Some (p q).0 ∙ e), subst AllHold (sym (p q).1) all)) d.found,
  )
  by_conditions e (inr f) = (
    side_verdict f.name,
    (
      f.place,
      each-some-map rows d.alone
          (λ other p q. (
            (
              (q, ap Some (p q).0 ∙ e),
              subst (λ cs. AllHold (first f.place cs)) (sym (p q).1) f.before,
            ),
            ap (side_at f.place) (p q).1 ∙ f.named,
          ))
          d.found,
      λ m. each-some rows d.alone
          (λ other p q. f.fails
          (subst (λ cs. AllHold (first (suc f.place) cs)) (p q.0.0).1 q.1)) m,
    ),
  )

  abbrev pub verdict_on : Dec (Some line.premises ≡ w.premises) → Decided line.conditions
      → (v : Verdict) × IsVerdict rows w v
  verdict_on (no n) c = (
    premises_verdict,
    (d.found, λ m. each-some rows d.alone (λ other p q. n (sym (ap Some (p q.0).0) ∙ q.1)) m),
  )
  verdict_on (yes e) c = by_conditions e (first_failing line.conditions c)
