-- The rule of a name, as the table of names is searched.
use Rattle.std.proofs.Common.{◌≡◌, refl, ap, ◌∙◌, Bool, true, false, ◌||◌, cond, bytes_eq, List, [], ◌∷◌, map, find, is_some, Option, Some}
use Rattle.std.specs.Option.{option_map}
use Rattle.std.specs.List.{list_any, list_all}
use Rattle.std.proofs.lemmas.Slice.Eq.{bytes_eq-Decides}
use Rattle.model_shapes.specs.Values.{Name}
use Rattle.model_shapes.proofs.Truth.{both_true}
use Rattle.model_files.specs.RuleNames.{entailment_rule_names}
use Rattle.rule_rows.specs.declared.names.EntailRule.{EntailRule}
use Rattle.rule_rows.specs.declared.names.EntailRule.TheVariants as r
use Rattle.rule_rows.specs.declared.names.TheConstants.{RULES}
use Rattle.rule_rows.specs.Names.{name_of}
use Rattle.rule_rows.specs.Searching.{rule_in}

-- as the program searches
module _ {X : Type 0} (spelled : X → Name) (rule : X → EntailRule) (name : Name) where
  pub searched : (xs : List X)
      → option_map rule (find (λ x. bytes_eq name (spelled x)) xs)
      ≡ rule_in (map (λ x. (spelled x, rule x)) xs) name
  searched [] = refl
  searched (x ∷ xs) = by_test (bytes_eq name (spelled x)) (searched xs)
    where
      by_test : (b : Bool)
          → option_map rule (find (λ y. bytes_eq name (spelled y)) xs)
          ≡ rule_in (map (λ y. (spelled y, rule y)) xs) name
          → option_map rule (cond b (Some x) (find (λ y. bytes_eq name (spelled y)) xs))
          ≡ cond b (Some (rule x)) (rule_in (map (λ y. (spelled y, rule y)) xs) name)
      by_test true e = refl
      by_test false e = e

some-is : (p q : EntailRule) → Some p ≡ Some q → p ≡ q
some-is p q e = cc

-- OF ANY TABLE
abbrev pub Table : Type 0
Table = List (Name × EntailRule)

abbrev well_named : Table → Bool
well_named = list_all (λ named. bytes_eq named.0 (name_of named.1))

-- a rule is found where one has the name
is-found : (table : Table) (name : Name)
    → is_some (rule_in table name) ≡ list_any (bytes_eq name) (map (λ named. named.0) table)
is-found [] name = refl
is-found (named ∷ rest) name = by_test (bytes_eq name named.0) (is-found rest name)
  where
    by_test : (b : Bool)
        → is_some (rule_in rest name)
        ≡ list_any (bytes_eq name) (map (λ other. other.0) rest)
        → is_some (cond b (Some named.1) (rule_in rest name))
        ≡ (b || list_any (bytes_eq name) (map (λ other. other.0) rest))
    by_test true e = refl
    by_test false e = e

-- what is found has the name
has-name : (table : Table) (name : Name) (rule : EntailRule) → well_named table ≡ true
    → rule_in table name ≡ Some rule → name ≡ name_of rule
has-name [] name rule w e = absurd cc
has-name (named ∷ rest) name rule w e =
    by_test (bytes_eq name named.0) refl (has-name rest name rule both.1) e
  where
    both : (bytes_eq named.0 (name_of named.1) ≡ true) × (well_named rest ≡ true)
    both = both_true (bytes_eq named.0 (name_of named.1)) (well_named rest) w

    by_test : (b : Bool) → bytes_eq name named.0 ≡ b
        → (rule_in rest name ≡ Some rule → name ≡ name_of rule)
        → cond b (Some named.1) (rule_in rest name) ≡ Some rule → name ≡ name_of rule
    by_test true t in_rest d =
        (bytes_eq-Decides name named.0).0 t
        ∙ (bytes_eq-Decides named.0 (name_of named.1)).0 both.0
        ∙ ap name_of (some-is named.1 rule d)
    by_test false t in_rest d = in_rest d

-- OF THE TABLE OF ALL RULES
abbrev pub rules : Table
rules = map (λ named. (named.0.now, named.1)) RULES.now

abbrev pub found_rule : Name → Option EntailRule
found_rule = rule_in rules

pub found-is_some : (name : Name)
    → is_some (found_rule name) ≡ list_any (bytes_eq name) entailment_rule_names
found-is_some name = is-found rules name

pub found-named : (name : Name) (rule : EntailRule) → found_rule name ≡ Some rule
    → name ≡ name_of rule
found-named name rule = has-name rules name rule refl

-- each rule is found by its name
pub each_found : (rule : EntailRule) → found_rule (name_of rule) ≡ Some rule
each_found r.Id = refl
each_found _ = refl
