-- Items are read exactly, and the answer on what has come is the one that is defined.
use Rattle.std.proofs.Common.{◌≡◌, ℕ, Bool, true, ◌&&◌, List, [], ◌∷◌, ◌++◌, Some, refl, sym, ap, subst, ◌∙◌, append-nil}
use Rattle.std.specs.Prelude.{nat_le}
use Rattle.std.proofs.lemmas.Bool.{leb-true, le-leb}
use Rattle.model_grammar.specs.TheoryWriting.{step_line}
use Rattle.model_round_trip.specs.Writable.{IsWritableStep}
use Rattle.model_certificates.specs.Certificates.{Item, head, proof_step, end, payload, IsWritableItem, ItemFits}
use Rattle.model_certificates.specs.Places.{Place, start, steps, MayStand}
use Rattle.model_certificates.specs.Reading.{◌>>=◌, number_at}
use Rattle.model_certificates.specs.Answers.{item_at, all_of, whole_item, may_stand}
use Rattle.model_certificates.proofs.Words.{are_of, are_said, are_held}
use Rattle.model_certificates.proofs.Exact.{bind_some, both_true, are_true, Spelling, Exact, Always, made_again, both_exact, no_more, ◌or◌, tagged_takes, variant, alone}
use Rattle.model_certificates.proofs.Leaves.{numbers, number_exact}
use Rattle.model_certificates.proofs.CommandReaders.{step_exact}
use Rattle.model_certificates.proofs.HeadReaders.{IsHead, head_words, head_exact, head_written, head_of, head_words_of}

-- an item but for its words, and these
abbrev IsSaid : Item → Type 0
IsSaid (head theory) = IsHead theory
IsSaid (proof_step procedure step) = IsWritableStep step
IsSaid end = Unit

abbrev words_in : ℕ → Item → Bool
words_in v (head theory) = head_words theory
words_in v (proof_step procedure step) = are_of v (step_line v step)
words_in v end = true

said_written : (v : ℕ) (item : Item) → IsSaid item → words_in v item ≡ true
    → IsWritableItem v item
said_written v (head theory) w o = head_written theory w o
said_written v (proof_step procedure step) w o = (w, are_said v (step_line v step) o)
said_written v end w o = tt

said_of : (v : ℕ) (item : Item) → IsWritableItem v item → IsSaid item × (words_in v item ≡ true)
said_of v (head theory) w = (head_of theory w, head_words_of theory w)
said_of v (proof_step procedure step) w = (w.0, are_held v (step_line v step) w.1)
said_of v end w = (tt, refl)

abbrev pub items : ℕ → Spelling Item
items v = record { bytes = payload; Writes = IsSaid; Fits = ItemFits; words = words_in v }

N : Exact number_at (numbers Always)
N = number_exact Always (λ n f. tt)

item_again : (v : ℕ) (item : Item) (rest : List ℕ) → IsSaid item → ItemFits item
    → words_in v item ≡ true → item_at v (payload item ++ rest) ≡ Some (item, rest)
unfolding item_at
item_again v (head theory) rest w f o = made_again head head_exact theory rest w f o
item_again v (proof_step procedure step) rest w f o =
    made_again (λ x. proof_step x.0 x.1) (both_exact N (step_exact v)) (procedure, step) rest
    (tt, w) f o
item_again v end rest w f o = refl

pub item_exact : (v : ℕ) → Exact (item_at v) (items v)
unfolding item_at
item_exact v = record {
  again = item_again v;
  takes = tagged_takes (items v) _ (
      variant head head_exact (λ x w. refl) (λ x w. w) (λ x f. f) (λ x w. refl)
      or variant (λ x. proof_step x.0 x.1) (both_exact N (step_exact v)) (λ x w. refl) (λ x w. w.1)
      (λ x f. f) (λ x w. refl)
      or alone end refl tt tt refl
      or no_more);
}

-- all that an item says
pub whole_again : (v : ℕ) (item : Item) → IsWritableItem v item → ItemFits item
    → whole_item v (payload item) ≡ Some item
unfolding whole_item
whole_again v item w f =
    let said = said_of v item w in
    ap (λ (z : List ℕ). item_at v z >>= λ x. all_of x.0 x.1) (sym (append-nil (payload item)))
    ∙ rw ((item_exact v).again item [] said.0 f said.1) refl

ended_is : (a b : Item) (left : List ℕ) → all_of a left ≡ Some b → (a ≡ b) × (left ≡ [])
ended_is a b [] e = (cc, refl)
ended_is a b (x ∷ left) e = absurd cc

pub whole_takes : (v : ℕ) (said : List ℕ) (item : Item) → whole_item v said ≡ Some item
    → (said ≡ payload item) × IsWritableItem v item × ItemFits item
unfolding whole_item
whole_takes v said item e =
    let x = bind_some (item_at v said) (λ (x : Item × List ℕ). all_of x.0 x.1) item e in
    let t = (item_exact v).takes said x.0.0 x.0.1 x.1 in
    let d = ended_is x.0.0 item x.0.1 x.2 in
    let cut : said ≡ payload x.0.0 = t.0 ∙ ap (λ (z : List ℕ). payload x.0.0 ++ z) d.1
    ∙ append-nil (payload x.0.0) in
    subst (λ (z : Item). (said ≡ payload z) × IsWritableItem v z × ItemFits z) d.0
    (cut, said_written v x.0.0 t.1 t.3, t.2)

-- ---- what may stand

pub stands_said : (place : Place) (item : Item) → may_stand place item ≡ true → MayStand place item
stands_said start (head theory) e = tt
stands_said (steps v n last) (proof_step p step) e =
    let b = both_true (nat_le 1 p) (nat_le last p && nat_le p n) e in
    let c = both_true (nat_le last p) (nat_le p n) b.1 in
    (leb-true 1 p b.0, leb-true last p c.0, leb-true p n c.1)
stands_said (steps v n last) end e = tt
stands_said _ _ e = absurd cc

pub stands_holds : (place : Place) (item : Item) → MayStand place item → may_stand place item ≡ true
stands_holds start (head theory) h = refl
stands_holds (steps v n last) (proof_step p step) h =
    are_true (nat_le 1 p) (nat_le last p && nat_le p n) (le-leb 1 p h.0)
    (are_true (nat_le last p) (nat_le p n) (le-leb last p h.1) (le-leb p n h.2))
stands_holds (steps v n last) end h = refl
stands_holds _ _ h = absurd h
