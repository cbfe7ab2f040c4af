-- A certificate is read as the items of its theory, and spells no other theory.
use Rattle.std.proofs.Common.{◌≡◌, ℕ, suc, ◌+◌, ◌<◌, ◌≤◌, List, [], ◌∷◌, ◌++◌, length, map, refl, sym, subst, arith}
use Rattle.std.proofs.lemmas.List.{length-map}
use Rattle.model_formulas.specs.Formulas.{Named}
use Rattle.model_commands.specs.Each.{Each}
use Rattle.model_commands.specs.Theories.{StepOf, ProcedureOf, Theory}
use Rattle.model_certificates.specs.Numbers.{all_bytes}
use Rattle.model_certificates.specs.Certificates.{Item, head, proof_step, item_bytes, IsItem, without_proof, without_proofs, proof_items, items_of, SpellsCertificate}
use Rattle.model_certificates.specs.Places.{Place, start, steps, ended, Takes, waits, takes, Reads, joined}
use Rattle.model_certificates.specs.Answers.{answer}
use Rattle.model_certificates.proofs.AnswerLaws.{nothing_waits}
use Rattle.model_certificates.proofs.Streams.{Same, one_reading, as_one, nothing_came}

-- ---- a certificate is read whole

nothing_behind : Takes ended [] [] ended []
unfolding answer
nothing_behind = waits (nothing_waits ended [] refl)

-- the steps of one proof, and then what others there are
reads_steps : (v N last n : ℕ) (ss : List (StepOf Named)) (others : List Item)
    → last ≤ n → 1 ≤ n → n ≤ N → Each (IsItem v) (map (proof_step n) ss ++ others)
    → ((now : ℕ) → now ≤ n → Each (IsItem v) others
    → Takes (steps v N now) (all_bytes item_bytes others) others ended [])
    → Takes (steps v N last) (all_bytes item_bytes (map (proof_step n) ss ++ others))
    (map (proof_step n) ss ++ others) ended []
reads_steps v N last n [] others before first most each go = go last before each
reads_steps v N last n (s ∷ ss) others before first most each go =
    takes (record { is_item = each.0; stands = (first, before, most); bytes = refl })
    (reads_steps v N n n ss others (omega arith) first most each.1 go)

reads_proofs : (v N last n : ℕ) (ps : List (ProcedureOf Named))
    → last ≤ n → 1 ≤ n → n + length ps ≡ suc N → Each (IsItem v) (proof_items n ps)
    → Takes (steps v N last) (all_bytes item_bytes (proof_items n ps)) (proof_items n ps) ended []
reads_proofs v N last n [] before first count each =
    takes (record { is_item = each.0; stands = tt; bytes = refl }) nothing_behind
reads_proofs v N last n (p ∷ ps) before first count each =
    reads_steps v N last n p.proof (proof_items (suc n) ps) before first (omega (arith, count)) each
    (λ now le others. reads_proofs v N now (suc n) ps (omega (arith, le)) (omega arith)
    (omega (arith, count)) others)

pub certificate_reads : (t : Theory) (bytes : List ℕ) → SpellsCertificate t bytes
    → Takes start bytes (items_of t) ended []
certificate_reads t bytes c =
    let counted : 1 + length t.procedures ≡ suc (length (map without_proof t.procedures)) =
    omega (arith, length-map t.procedures without_proof) in
    let own : IsItem 0 (head (without_proofs t)) = record {
      written = c.items.0.written;
      fits = c.items.0.fits;
      short = c.items.0.short;
    } in
    takes (record { is_item = own; stands = tt; bytes = c.spelled })
    (reads_proofs t.version (length (map without_proof t.procedures)) 0 1 t.procedures (omega arith)
    (omega arith) counted c.items.1)

-- in whatever pieces it comes
pub certificate_reads_in_pieces : (t : Theory) (bytes : List ℕ) (pieces : List (List ℕ))
    (items : List Item) (place : Place) (rest : List ℕ)
    → SpellsCertificate t bytes → joined pieces ≡ bytes → Reads start [] pieces items place rest
    → Same items place rest (items_of t) ended []
certificate_reads_in_pieces t bytes pieces items place rest c whole r =
    one_reading start bytes items (items_of t) place ended rest []
    (subst (λ (z : List ℕ). Takes start z items place rest) whole
    (as_one start [] pieces items place rest r nothing_came)) (certificate_reads t bytes c)

-- ---- and spells one theory

-- the items don't begin with a step of this procedure
abbrev NoStepOf : ℕ → List Item → Type 0
NoStepOf n items =
    (s : StepOf Named) (others : List Item) → items ≡ proof_step n s ∷ others → ⊥

later_steps : (n m : ℕ) (ss : List (StepOf Named)) (others : List Item) → n < m → NoStepOf n others
    → NoStepOf n (map (proof_step m) ss ++ others)
later_steps n m [] others lt isnt s more e = isnt s more e
later_steps n m (t ∷ ss) others lt isnt s more e =
    let h : m ≡ n = cc in
    omega (arith, h)

later : (n m : ℕ) (ps : List (ProcedureOf Named)) → n < m → NoStepOf n (proof_items m ps)
later n m [] lt s others e = cc
later n m (p ∷ ps) lt s others e =
    later_steps n m p.proof (proof_items (suc m) ps) lt (later n (suc m) ps (omega (arith, lt))) s
    others e

same_steps : (n : ℕ) (ss ts : List (StepOf Named)) (xs ys : List Item) → NoStepOf n xs
    → NoStepOf n ys → map (proof_step n) ss ++ xs ≡ map (proof_step n) ts ++ ys
    → (ss ≡ ts) × (xs ≡ ys)
same_steps n [] [] xs ys nx ny e = (refl, e)
same_steps n [] (t ∷ ts) xs ys nx ny e = absurd (nx t (map (proof_step n) ts ++ ys) e)
same_steps n (s ∷ ss) [] xs ys nx ny e = absurd (ny s (map (proof_step n) ss ++ xs) (sym e))
same_steps n (s ∷ ss) (t ∷ ts) xs ys nx ny e =
    let first : s ≡ t = cc in
    let others : map (proof_step n) ss ++ xs ≡ map (proof_step n) ts ++ ys = cc in
    let same = same_steps n ss ts xs ys nx ny others in
    ((λ i. first i ∷ same.0 i), same.1)

same_procedure : (p q : ProcedureOf Named) → without_proof p ≡ without_proof q
    → p.proof ≡ q.proof → p ≡ q
same_procedure p q e f = λ i. record {
  name = (e i).name;
  params = (e i).params;
  results = (e i).results;
  sort = (e i).sort;
  pre = (e i).pre;
  post = (e i).post;
  body = (e i).body;
  proof = f i;
}

same_procedures : (n : ℕ) (ps qs : List (ProcedureOf Named))
    → map without_proof ps ≡ map without_proof qs → proof_items n ps ≡ proof_items n qs → ps ≡ qs
same_procedures n [] [] e f = refl
same_procedures n [] (q ∷ qs) e f = absurd cc
same_procedures n (p ∷ ps) [] e f = absurd cc
same_procedures n (p ∷ ps) (q ∷ qs) e f =
    let first : without_proof p ≡ without_proof q = cc in
    let others : map without_proof ps ≡ map without_proof qs = cc in
    let s = same_steps n p.proof q.proof (proof_items (suc n) ps) (proof_items (suc n) qs)
    (later n (suc n) ps (omega arith)) (later n (suc n) qs (omega arith)) f in
    let one = same_procedure p q first s.0 in
    let more = same_procedures (suc n) ps qs others s.1 in
    λ i. one i ∷ more i

pub same_theory : (t u : Theory) → items_of t ≡ items_of u → t ≡ u
same_theory t u e =
    let heads : without_proofs t ≡ without_proofs u = cc in
    let others : proof_items 1 t.procedures ≡ proof_items 1 u.procedures = cc in
    let procedures = same_procedures 1 t.procedures u.procedures
    (λ i. (heads i).procedures) others in
    λ i. record {
      version = (heads i).version;
      logic = (heads i).logic;
      procedures = procedures i;
    }

pub one_theory : (t u : Theory) (bytes : List ℕ) → SpellsCertificate t bytes
    → SpellsCertificate u bytes → t ≡ u
one_theory t u bytes c d =
    same_theory t u (one_reading start bytes (items_of t) (items_of u) ended ended [] []
    (certificate_reads t bytes c) (certificate_reads u bytes d)).0
