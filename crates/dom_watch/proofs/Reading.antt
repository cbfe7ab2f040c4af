-- What the read calls of a heap tell, by what stands at each number.
use Rattle.std.proofs.Common.{◌≡◌, ◌∙◌, ℕ, ◌≤◌, true, Option, Some, None, Ok, Err, refl, sym, ap, subst, arith}
use Rattle.std.specs.Option.{is_some}
use Rattle.model_shapes.specs.Sorts.{shape, grove}
use Rattle.model_shapes.specs.Values.{Name, Value, node_number, list_number, str}
use Rattle.model_shapes.specs.Trees.{Trees}
use Rattle.model_shapes.specs.Shapes.{Shaped}
use Rattle.model_groves.specs.Groves.{node_at, nodes_where, numbered, parental, first_number}
use Rattle.model_machine.specs.Machine as machine
use Rattle.model_machine.specs.Machine.{no_node}
use Rattle.model_heap.specs.Lists.{count, head_of, after}
use Rattle.model_heap.specs.Entries.{Entry, rows_of, uses, kids_of}
use Rattle.model_heap.proofs.Kinship.{present}
use Rattle.model_heap.proofs.Words.{NodeOf, node_of, uses-are}
use Rattle.grove_data.specs.Finding.{number_or_null}
use Rattle.dom_meaning.specs.declared.faults.FaultKind.{FaultKind}
use Rattle.node_heap.specs.Answers.{Reads}
use Rattle.node_heap.specs.Visiting.{sibling_number}
use Rattle.node_heap.proofs.Siblings.{first_is}
use Rattle.dom_watch.specs.declared.rows.Row.{Row}
use Rattle.dom_watch.specs.Tables.{IsKnown, StandsIn}
use Rattle.dom_watch.proofs.Siblings.{sibling_is}

same_number : (a b : Option ℕ) → number_or_null a ≡ number_or_null b → a ≡ b
same_number None None e = refl
same_number None (Some y) e = absurd (cc)
same_number (Some x) None e = absurd (cc)
same_number (Some x) (Some y) e = let s : x ≡ y = cc in ap Some s

-- what stands at a number that is known
pub entry_there : (g : Trees) (n : ℕ) → IsKnown g n → (e : Entry) × (rows_of g n ≡ Some e)
entry_there g n k = by_entry (rows_of g n) refl (present None g n k)
  where
    by_entry : (o : Option Entry) → rows_of g n ≡ o → is_some o ≡ true
        → (e : Entry) × (rows_of g n ≡ Some e)
    by_entry None e h = absurd (cc)
    by_entry (Some x) e h = (x, e)

pub once : (g : Trees) → Shaped (shape grove) g → (m : ℕ) → uses m g ≤ 1
once g o m = omega (arith, o.well_formed.nodes_once m, uses-are m g)

module _ (g : Trees) (o : Shaped (shape grove) g) (n : ℕ) (k : IsKnown g n) where
  abbrev here : Entry
  here = (entry_there g n k).0

  abbrev is_here : rows_of g n ≡ Some here
  is_here = (entry_there g n k).1

  abbrev found : NodeOf (nodes_where (numbered n) g) n here
  found = node_of g n here o.holes_fit (once g o n) is_here

  -- a call that reads has what stands there, and doesn't fault
  module _ {A : Type 0} (seen : A → Value) (kind : machine.FaultKind)
      (read : Name → ℕ → Trees → ℕ → Value)
    where
      pub is_read : (answer : A) → Reads seen (node_at (node_number n) g) kind read (Ok answer)
          → seen answer ≡ read here.name n found.kids here.list
      is_read answer h = subst (λ f. Reads seen f kind read (Ok answer)) found.is h

      pub no_fault : (fault : FaultKind)
          → Reads seen (node_at (node_number n) g) kind read (Err fault) → ⊥
      no_fault fault h = subst (λ f. Reads seen f kind read (Err fault)) found.is h

  pub row_stands : (row : Row) → row.number ≡ n → str row.name.now ≡ str here.name
      → list_number row.list ≡ list_number here.list → StandsIn g row
  row_stands row number name list = record {
    entry = here;
    is = ap (rows_of g) number ∙ is_here;
    name = cc;
    list = cc;
  }

  -- the first child
  pub first_read : (answer : Option ℕ)
      → Reads number_or_null (node_at (node_number n) g) no_node
      (λ name number kids list. first_number kids) (Ok answer)
      → answer ≡ head_of (kids_of (rows_of g n))
  first_read answer h =
      same_number answer (head_of (kids_of (rows_of g n)))
      (is_read number_or_null no_node (λ name number kids list. first_number kids) answer h
      ∙ sym (first_is found.kids found.whole)
      ∙ ap (λ ks. number_or_null (head_of ks)) (found.are_kids ∙ sym (ap kids_of is_here)))

  -- the next sibling
  pub next_read : (answer : Option ℕ)
      → Reads number_or_null (node_at (node_number n) g) no_node
      (λ name number kids list. sibling_number number (nodes_where (parental number) g))
      (Ok answer) → (p : ℕ) → 1 ≤ count n (kids_of (rows_of g p))
      → answer ≡ after n (kids_of (rows_of g p))
  next_read answer h p kid =
      same_number answer (after n (kids_of (rows_of g p)))
      (is_read number_or_null no_node
      (λ name number kids list. sibling_number number (nodes_where (parental number) g)) answer h
      ∙ sym (sibling_is None g p n o.holes_fit (once g o) kid))
