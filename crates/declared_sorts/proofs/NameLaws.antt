-- What a table of names has after one more declaration, and the sorts that it tells.
use Rattle.std.proofs.Common.{◌≡◌, ◌∙◌, sym, refl, ap, ℕ, ◌+◌, ◌<◌, List, [], ◌∷◌, Bool, true, false, cond, Option, Some, bytes_eq, length, get_or, drop, map, add-one}
use Rattle.std.specs.Prelude.{unwrap_or}
use Rattle.std.proofs.Math.Seq.{drop-cons}
use Rattle.model_grammar.specs.Sorts.{sort_among, logic_sort_among}
use Rattle.dom_terms.specs.Sorts.{value_sort_of, sort_of}
use Rattle.dom_terms.specs.Terms.{prog_var_of, logic_var_of}
use Rattle.dom_terms.specs.declared.sorts.Sort.{Sort}
use Rattle.dom_terms.specs.declared.sorts.Sort.TheVariants.{Value}
use Rattle.dom_terms.specs.declared.sorts.ValueSort.{ValueSort}
use Rattle.dom_terms.specs.declared.sorts.ValueSort.TheVariants.{Node}
use Rattle.dom_terms.specs.declared.terms.LogicVar.{LogicVar}
use Rattle.dom_terms.specs.declared.terms.ProgVar.{ProgVar}
use Rattle.name_table.specs.Found.{first_of}
use Rattle.declared_sorts.specs.declared.names.Names.{Names}
use Rattle.declared_sorts.specs.Names.{of_variable, of_logic, found, Tells}

-- the item of this turn and those of the later ones
drop_item : {A : Type 0} (items : List A) (i : ℕ) (item : A) → i < length items
    → item ≡ get_or items i item → drop i items ≡ item ∷ drop (i + 1) items
drop_item {A} items i item lt is =
    drop-cons items i item lt ∙ ap (λ (k : ℕ). get_or items i item ∷ drop k items)
    (sym (add-one i)) ∙ ap (λ (z : A). z ∷ drop (i + 1) items) (sym is)

-- one more declaration before those that are told
pub told_more : {S V : Type 0} (declaration : V → List ℕ × S) (names old : Names S) (all : List V)
    (i : ℕ) (item : V) → i < length all → item ≡ get_or all i item
    → Tells old (map declaration (drop (i + 1) all))
    → ((q : List ℕ) → found names q ≡ cond (bytes_eq q (declaration item).0)
    (Some (declaration item).1) (found old q))
    → Tells names (map declaration (drop i all))
told_more declaration names old all i item lt is before more q =
    more q
    ∙ ap (λ o. cond (bytes_eq q (declaration item).0) (Some (declaration item).1) o) (before q)
    ∙ ap (λ z. first_of (map declaration z) q) (sym (drop_item all i item lt is))

-- a choice between the first declaration and the others
chosen : {S T : Type 0} (sort : S → T) (b : Bool) (s d : S) (o : Option S) (t : T)
    → sort (unwrap_or o d) ≡ t
    → sort (unwrap_or (cond b (Some s) o) d) ≡ cond b (sort s) t
chosen sort true s d o t e = refl
chosen sort false s d o t e = e

variable_first : (all : List ProgVar) (name : List ℕ)
    → value_sort_of (unwrap_or (first_of (map of_variable all) name) Node)
    ≡ sort_among (map prog_var_of all) name
variable_first [] name = refl
variable_first (x ∷ all) name = chosen value_sort_of (bytes_eq name x.name) x.sort Node
    (first_of (map of_variable all) name) (sort_among (map prog_var_of all) name)
    (variable_first all name)

logic_first : (all : List LogicVar) (name : List ℕ)
    → sort_of (unwrap_or (first_of (map of_logic all) name) (Value Node))
    ≡ logic_sort_among (map logic_var_of all) name
logic_first [] name = refl
logic_first (x ∷ all) name = chosen sort_of (bytes_eq name x.name) x.sort (Value Node)
    (first_of (map of_logic all) name) (logic_sort_among (map logic_var_of all) name)
    (logic_first all name)

-- the sort of a program variable
pub variable_sort : (names : Names ValueSort) (all : List ProgVar) (name : List ℕ)
    → Tells names (map of_variable all)
    → value_sort_of (unwrap_or (found names name) Node) ≡ sort_among (map prog_var_of all) name
variable_sort names all name told =
    ap (λ o. value_sort_of (unwrap_or o Node)) (told name) ∙ variable_first all name

-- the sort of a logic variable
pub logic_sort : (names : Names Sort) (all : List LogicVar) (name : List ℕ)
    → Tells names (map of_logic all)
    → sort_of (unwrap_or (found names name) (Value Node))
    ≡ logic_sort_among (map logic_var_of all) name
logic_sort names all name told =
    ap (λ o. sort_of (unwrap_or o (Value Node))) (told name) ∙ logic_first all name
