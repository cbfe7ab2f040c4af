-- What reads to the end is a certificate: the items are those of a theory.
use Rattle.std.proofs.Common.{◌≡◌, ℕ, zero, suc, ◌+◌, ◌-◌, ◌<◌, ◌≤◌, List, [], ◌∷◌, ◌++◌, length, map, refl, sym, ap, subst, ◌∙◌, arith}
use Rattle.model_formulas.specs.Formulas.{Named}
use Rattle.model_commands.specs.Each.{Each}
use Rattle.model_commands.specs.Theories.{StepOf, ProcedureOf, Theory}
use Rattle.model_certificates.specs.Numbers.{all_bytes}
use Rattle.model_certificates.specs.Bounds.{ProcedureFits}
use Rattle.model_certificates.specs.Certificates.{Item, head, proof_step, end, item_bytes, IsItem, without_proof, without_proofs, proof_items, items_of, mark}
use Rattle.model_certificates.specs.Places.{start, steps, ended, MayStand, Takes, waits, takes, IsSpelled}

-- the steps that are still to come, and whose they are: procedures that are these but for proofs
pub record Gathered (v n : ℕ) (hs : List (ProcedureOf Named)) (left : List ℕ) (items : List Item)
    : Type 0 where
  pub procedures : List (ProcedureOf Named)
  pub same : map without_proof procedures ≡ map without_proof hs
  pub are_items : items ≡ proof_items n procedures
  pub bytes : left ≡ all_bytes item_bytes items
  pub each : Each (IsItem v) items

bare : (hs : List (ProcedureOf Named))
    → map without_proof (map without_proof hs) ≡ map without_proof hs
bare [] = refl
bare (h ∷ hs) = ap (λ (z : List (ProcedureOf Named)). without_proof h ∷ z) (bare hs)

no_step_left : (n : ℕ) (hs : List (ProcedureOf Named))
    → end ∷ [] ≡ proof_items n (map without_proof hs)
no_step_left n [] = refl
no_step_left n (h ∷ hs) = no_step_left (suc n) hs

-- behind the end nothing is taken
nothing_left : (left : List ℕ) (items : List Item) → Takes ended left items ended []
    → (items ≡ []) × (left ≡ [])
nothing_left _ _ (waits w) = (refl, refl)
nothing_left _ _ (takes {item = item} b t) = absurd (never item b.stands)
  where
    never : (item : Item) → MayStand ended item → ⊥
    never (head t) h = h
    never (proof_step p s) h = h
    never end h = h

at_end : (v n : ℕ) (hs : List (ProcedureOf Named)) (left rest : List ℕ) (items : List Item)
    → IsItem v end → left ≡ item_bytes end ++ rest → (items ≡ []) × (rest ≡ [])
    → Gathered v n hs left (end ∷ items)
at_end v n hs left rest items it cut none = record {
  procedures = map without_proof hs;
  same = bare hs;
  are_items = ap (λ (z : List Item). end ∷ z) none.0 ∙ no_step_left n hs;
  bytes = cut ∙ ap (λ (z : List ℕ). item_bytes end ++ z) (none.1
      ∙ ap (all_bytes item_bytes) (sym none.0));
  each = (it, subst (Each (IsItem v)) (sym none.0) tt);
}

-- a step in front of the proof of the first procedure
abbrev with_step : StepOf Named → ProcedureOf Named → ProcedureOf Named
with_step s p = record {
  name = p.name;
  params = p.params;
  results = p.results;
  sort = p.sort;
  pre = p.pre;
  post = p.post;
  body = p.body;
  proof = s ∷ p.proof;
}

in_front : (v p : ℕ) (s : StepOf Named) (h : ProcedureOf Named) (hs : List (ProcedureOf Named))
    (left rest : List ℕ) (items : List Item)
    → IsItem v (proof_step p s) → left ≡ item_bytes (proof_step p s) ++ rest
    → (ps : List (ProcedureOf Named)) → map without_proof ps ≡ map without_proof (h ∷ hs)
    → items ≡ proof_items p ps → rest ≡ all_bytes item_bytes items → Each (IsItem v) items
    → Gathered v p (h ∷ hs) left (proof_step p s ∷ items)
in_front v p s h hs left rest items it cut [] same are bytes each =
    absurd (let e : [] ≡ map without_proof (h ∷ hs) = same in cc)
in_front v p s h hs left rest items it cut (q ∷ qs) same are bytes each = record {
  procedures = with_step s q ∷ qs;
  same = same;
  are_items = ap (λ (z : List Item). proof_step p s ∷ z) are;
  bytes = cut ∙ ap (λ (z : List ℕ). item_bytes (proof_step p s) ++ z) bytes;
  each = (it, each);
}

-- procedures without steps in front
skipped : (v n : ℕ) (h : ProcedureOf Named) (hs : List (ProcedureOf Named)) (left : List ℕ)
    (items : List Item) → Gathered v (suc n) hs left items → Gathered v n (h ∷ hs) left items
skipped v n h hs left items g = record {
  procedures = without_proof h ∷ g.procedures;
  same = ap (λ (z : List (ProcedureOf Named)). without_proof h ∷ z) g.same;
  are_items = g.are_items;
  bytes = g.bytes;
  each = g.each;
}

-- a step of the procedure that is so many behind the first
place_step : (v k n p : ℕ) (hs : List (ProcedureOf Named)) (s : StepOf Named) (left rest : List ℕ)
    (items : List Item) → n + k ≡ p → k < length hs
    → IsItem v (proof_step p s) → left ≡ item_bytes (proof_step p s) ++ rest
    → ((more : List (ProcedureOf Named)) → length more + k ≡ length hs
    → Gathered v p more rest items)
    → Gathered v n hs left (proof_step p s ∷ items)
place_step v k n p [] s left rest items e lt it cut go = absurd (omega (arith, lt))
place_step v zero n p (h ∷ hs) s left rest items e lt it cut go =
    let g = go (h ∷ hs) (omega arith) in
    let q : p ≡ n = omega (arith, e) in
    subst (λ (z : ℕ). Gathered v z (h ∷ hs) left (proof_step p s ∷ items)) q
    (in_front v p s h hs left rest items it cut g.procedures g.same g.are_items g.bytes g.each)
place_step v (suc k) n p (h ∷ hs) s left rest items e lt it cut go =
    skipped v n h hs left (proof_step p s ∷ items)
    (place_step v k (suc n) p hs s left rest items (omega (arith, e)) (omega (arith, lt)) it cut
    (λ more l. go more (omega (arith, l))))

-- from a place behind the head on: every step that may stand is one of these procedures
pub gather : (v N last n : ℕ) (hs : List (ProcedureOf Named)) (left : List ℕ) (items : List Item)
    → n + length hs ≡ suc N → ((p : ℕ) → 1 ≤ p → last ≤ p → n ≤ p)
    → Takes (steps v N last) left items ended [] → Gathered v n hs left items
gather v N last n hs _ _ count from (takes {left = rest} {item = head t} b u) = absurd b.stands
gather v N last n hs left _ count from
    (takes {left = rest} {item = proof_step p s} {items = items} b u) =
    let np : n ≤ p = from p b.stands.0 b.stands.1 in
    let top : p ≤ N = b.stands.2 in
    let near : n + (p - n) ≡ p = omega (arith, np) in
    place_step v (p - n) n p hs s left rest items near (omega (arith, np, top, count)) b.is_item
    b.bytes
    (λ more l. gather v N p p more rest items (omega (arith, l, count, np, top))
    (λ q one le. le) u)
gather v N last n hs left _ count from
    (takes {left = rest} {item = end} {items = items} b u) =
    at_end v n hs left rest items b.is_item b.bytes (nothing_left rest items u)

-- ---- from the start

each_bare : (hs : List (ProcedureOf Named)) → Each ProcedureFits hs → map without_proof hs ≡ hs
each_bare [] f = refl
each_bare (h ∷ hs) f = λ i. bare_one h f.0.proof i ∷ each_bare hs f.1 i
  where
    bare_one : (h : ProcedureOf Named) → h.proof ≡ [] → without_proof h ≡ h
    bare_one h e = λ i. record {
      name = h.name;
      params = h.params;
      results = h.results;
      sort = h.sort;
      pre = h.pre;
      post = h.post;
      body = h.body;
      proof = sym e i;
    }

whole : (t : Theory) (bytes left : List ℕ) (items : List Item) → IsItem 0 (head t)
    → bytes ≡ mark ++ (item_bytes (head t) ++ left) → Gathered t.version 1 t.procedures left items
    → IsSpelled bytes (head t ∷ items)
whole t bytes left items it cut g =
    let read : Theory = record {
      version = t.version;
      logic = t.logic;
      procedures = g.procedures;
    } in
    let heads : map without_proof g.procedures ≡ t.procedures = g.same
    ∙ each_bare t.procedures it.fits.procedures.1 in
    let same : head t ≡ head (without_proofs read) = λ i. head (record {
      version = t.version;
      logic = t.logic;
      procedures = sym heads i;
    }) in
    let all : head t ∷ items ≡ items_of read = λ i. same i ∷ g.are_items i in
    let own : IsItem t.version (head t) = record {
      written = it.written;
      fits = it.fits;
      short = it.short;
    } in
    record {
      theory = read;
      spells = record {
        items = subst (Each (IsItem t.version)) all (own, g.each);
        spelled = cut ∙ ap (λ (z : List ℕ). mark ++ (item_bytes (head t) ++ z)) g.bytes
            ∙ ap (λ (z : List Item). mark ++ all_bytes item_bytes z) all;
      };
      are_items = all;
    }

pub reads_to_end : (bytes : List ℕ) (items : List Item) → Takes start bytes items ended []
    → IsSpelled bytes items
reads_to_end bytes _ (takes {left = left} {item = head t} {items = items} b u) =
    whole t bytes left items b.is_item b.bytes
    (gather t.version (length t.procedures) 0 1 t.procedures left items (omega arith)
    (λ p one le. one) u)
reads_to_end bytes _ (takes {item = proof_step p s} b u) = absurd b.stands
reads_to_end bytes _ (takes {item = end} b u) = absurd b.stands
