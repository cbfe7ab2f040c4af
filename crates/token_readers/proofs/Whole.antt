-- A reader of whole lists is exact, with its fault token.
use Rattle.std.proofs.Common.{◌≡◌, ℕ, suc, ◌-◌, ◌<◌, ◌≤◌, Bool, true, List, [], ◌∷◌, ◌++◌, length, Ok, Err, refl, sym, ap, subst, ◌∙◌, append-nil, arith, ◌⊎◌, inl, inr, length-append}
use Rattle.model_text.specs.Lexemes.{Lexeme}
use Rattle.token_readers.specs.Reading.{At, Deep, Answer, Read, ◌>>=◌}
use Rattle.token_readers.specs.Spelling.{ended, whole}
use Rattle.model_text.specs.FaultTokens.{AreOfTokens, IsFaultToken}
use Rattle.model_text.proofs.Usual.{of_tokens}
use Rattle.model_text.proofs.Cuts.{Cut, cut_fault}
use Rattle.token_readers.specs.Giving.{Fails}
use Rattle.token_readers.specs.Faults.{AtToken, LeavesWithin, FirstLeft}
use Rattle.token_readers.specs.declared.fault.ReadFault.{ReadFault}
use Rattle.token_readers.specs.declared.fault.ReadFault.TheVariants as reading
use Rattle.token_readers.specs.declared.fault.TextFault.{TextFault}
use Rattle.token_readers.specs.declared.fault.TextFault.TheVariants as faults
use Rattle.token_readers.proofs.Sound.{Sound, ok_parts, bind_ok, bind_err, bind_then}
use Rattle.token_readers.proofs.Only.{Only, OrDeep, deep, read}

-- no answer of the reader is two things
never_err : {A : Type 0} (x : Answer A) (a : A) (rest : List Lexeme) (k : ℕ) → OrDeep x a rest
    → x ≡ Err (At k) → ⊥
never_err x a rest k deep e = cc
never_err x a rest k read e = cc

never_more : {A : Type 0} (x : Answer A) (a b : A) (t : Lexeme) (s : List Lexeme) → OrDeep x a []
    → x ≡ Ok (b, t ∷ s) → ⊥
never_more x a b t s deep e = cc
never_more x a b t s read e = let d = (ok_parts a b [] (t ∷ s) e).1 in cc

ok_read : {A : Type 0} (x : Answer A) (a : A) (rest : List Lexeme) → OrDeep x a rest
    → (x ≡ Err Deep → ⊥) → x ≡ Ok (a, rest)
ok_read x a rest deep h = absurd (h refl)
ok_read x a rest read h = refl

module _ {A : Type 0} (r : ℕ → Read A) (L : A → List Lexeme → Type 0) (stops : List Lexeme → Bool)
    (at_end : stops [] ≡ true)
    (S : (n : ℕ) → Sound n (r n) L) (O : (n : ℕ) → Only (r n) L stops) where
  whole_reads : (n : ℕ) (a : A) (ts : List Lexeme) → L a ts → OrDeep (r n ts) a []
  whole_reads n a ts l = subst (λ (z : List Lexeme). OrDeep (r n z) a []) (append-nil ts)
      ((O n).only a ts [] l at_end)

  -- what is read is spelled
  pub whole_found : (n : ℕ) (ts : List Lexeme) (a : A) → whole (r n) ts ≡ Ok a → L a ts
  whole_found n ts a e =
      let x = bind_ok (r n ts) (λ (x : A × List Lexeme). ended x.0 x.1) a e in
      let f = (S n).found ts x.0.0 x.0.1 x.1 in
      ended_found x.0.0 x.0.1 a x.2 ts f.0 f.1 f.2
    where
      ended_found : (b : A) (rest : List Lexeme) (a : A) → ended b rest ≡ Ok a
          → (ts s : List Lexeme) → ts ≡ s ++ rest → L b s → L a ts
      ended_found b [] a e ts s h l =
          let ba : b ≡ a = cc in
          subst (λ (z : A). L z ts) ba (subst (λ (z : List Lexeme). L b z)
          (sym (h ∙ append-nil s)) l)
      ended_found b (t ∷ rest) a e ts s h l = absurd cc

  -- what is spelled is read
  pub whole_only : (n : ℕ) (ts : List Lexeme) (a : A) → length ts < n → L a ts
      → whole (r n) ts ≡ Ok a
  whole_only n ts a lt l = bind_then (r n ts) (λ (x : A × List Lexeme). ended x.0 x.1) (a, [])
      (ok_read (r n ts) a [] (whole_reads n a ts l) ((S n).ends ts lt))

  -- a list spells at most one value
  pub one_value : (ts : List Lexeme) (a b : A) → L a ts → L b ts → a ≡ b
  one_value ts a b la lb =
      let n = suc (length ts) in
      let x = ok_read (r n ts) a [] (whole_reads n a ts la) ((S n).ends ts (omega arith)) in
      let y = ok_read (r n ts) b [] (whole_reads n b ts lb) ((S n).ends ts (omega arith)) in
      (ok_parts a b [] [] (sym x ∙ y)).0

  -- where it spells nothing, it is cut there
  pub whole_cut : (n : ℕ) (ts : List Lexeme) (k : ℕ) → whole (r n) ts ≡ Err (At k)
      → Cut L ts (suc (length ts - k))
  whole_cut n ts k e =
      elim (bind_err (r n ts) (λ (x : A × List Lexeme). ended x.0 x.1) (At k) e) [
        | inl h ↦
            let v = (S n).viable ts k h in
            let len : length ts - k ≡ length v.0 = omega
            (arith, ap (length {A = Lexeme}) v.2, length-append v.0 v.1, v.3) in record {
              front = v.0;
              rest = v.1;
              whole = v.2;
              number = ap suc len;
              value = v.4;
              more = v.5;
              spells = v.6;
              usual = v.7;
              dead = λ t s es a u la.
                  let h2 : r n (v.0 ++ (t ∷ s)) ≡ Err (At (suc (length s))) =
                  subst (λ (z : List Lexeme). r n (v.0 ++ z) ≡ Err (At (length z))) es
                  (subst (λ (z : List Lexeme). r n z ≡ Err (At (length v.1))) v.2
                  (subst (λ (z : ℕ). r n ts ≡ Err (At z)) v.3 h)) in
                  never_err (r n (v.0 ++ (t ∷ u))) a [] (suc (length u))
                  (whole_reads n a (v.0 ++ (t ∷ u)) la) ((S n).local_err v.0 t s h2 u);
            }
        | inr x ↦
            let f = (S n).found ts x.0.0 x.0.1 x.1 in
            more_cut n ts k x.0.0 x.0.1 f.0 x.1 x.2 f.1 f.2
      ]
    where
      more_cut : (n : ℕ) (ts : List Lexeme) (k : ℕ) (b : A) (rest s : List Lexeme)
          → r n ts ≡ Ok (b, rest) → ended b rest ≡ Err (At k)
          → ts ≡ s ++ rest → L b s → Cut L ts (suc (length ts - k))
      more_cut n ts k b [] s e h cut l = absurd cc
      more_cut n ts k b (t ∷ rest) s e h cut l =
          let ke : suc (length rest) ≡ k = cc in
          let len : length ts - k ≡ length s = omega (
            arith,
            ap
                (length {A = Lexeme}) cut,
            length-append s (t ∷ rest),
            ke,
          ) in record {
            front = s;
            rest = t ∷ rest;
            whole = cut;
            number = ap suc len;
            value = b;
            more = [];
            spells = subst (λ (z : List Lexeme). L b z) (sym (append-nil s)) l;
            usual = tt;
            dead = λ t2 s2 es a u la.
                let h2 : r n (s ++ (t2 ∷ s2)) ≡ Ok (b, t2 ∷ s2) =
                subst (λ (z : List Lexeme). r n (s ++ z) ≡ Ok (b, z)) es
                (subst (λ (z : List Lexeme). r n z ≡ Ok (b, t ∷ rest)) cut e) in
                never_more (r n (s ++ (t2 ∷ u))) a b t2 u (whole_reads n a (s ++ (t2 ∷ u)) la)
                ((S n).local_ok s t2 s2 b h2 u);
          }

  -- and there is the fault token
  pub whole_fault : (n : ℕ) (ts : List Lexeme) (k : ℕ) → AreOfTokens ts
      → whole (r n) ts ≡ Err (At k) → IsFaultToken L ts (suc (length ts - k))
  whole_fault n ts k each e =
      let c = whole_cut n ts k e in
      subst (λ (z : ℕ). IsFaultToken L ts z) (sym c.number)
      (cut_fault L ts c.front c.rest each c.whole
      (c.value, c.more, c.spells, of_tokens c.more c.usual) c.dead)

  -- what is spelled is read, or nothing is said
  pub whole_or_deep : (n : ℕ) (ts : List Lexeme) (a : A) → L a ts
      → (whole (r n) ts ≡ Ok a) ⊎ (whole (r n) ts ≡ Err Deep)
  whole_or_deep n ts a l = cases (r n ts) (whole_reads n a ts l)
    where
      cases : (x : Answer A) → OrDeep x a [] → ((x >>= λ z. ended z.0 z.1) ≡ Ok a) ⊎
          ((x >>= λ z. ended z.0 z.1) ≡ Err Deep)
      cases x deep = inr refl
      cases x read = inl refl

  pub left_fits : (n : ℕ) (ts : List Lexeme) (k : ℕ) → whole (r n) ts ≡ Err (At k) → k ≤ length ts
  left_fits n ts k e =
      elim (bind_err (r n ts) (λ (x : A × List Lexeme). ended x.0 x.1) (At k) e) [
        | inl h ↦ let v = (S n).viable ts k h in omega (
          arith,
          ap
              (length {A = Lexeme}) v.2,
          length-append v.0 v.1,
          v.3,
        )
        | inr x ↦ let f = (S n).found ts x.0.0 x.0.1 x.1 in omega (
          arith,
          ap (length {A = Lexeme}) f.1,
          length-append f.0 x.0.1,
          ended_left x.0.0 x.0.1 k
              x.2,
        )
      ]
    where
      ended_left : (b : A) (rest : List Lexeme) (k : ℕ) → ended b rest ≡ Err (At k)
          → k ≡ length rest
      ended_left b [] k h = absurd cc
      ended_left b (t ∷ rest) k h = cc

  -- the same of a function of the program that gave a fault: the tokens that it left are of those
  pub fault_within : (n : ℕ) (ts : List Lexeme) (fault : ReadFault) → Fails fault (whole (r n) ts)
      → (count : ℕ) → length ts ≡ count → LeavesWithin count fault
  fault_within n ts reading.Memory e count same = tt
  fault_within n ts (reading.Text left) e count same =
      subst (λ (z : ℕ). left ≤ z) same (left_fits n ts left e)

  -- the text is called bad where it spells nothing
  pub fault_spells_none : (n : ℕ) (ts : List Lexeme) (fault : ReadFault)
      → Fails fault (whole (r n) ts) → (count : ℕ) (answer : TextFault)
      → AtToken answer (FirstLeft count fault) → AtToken answer (λ token. (a : A) → L a ts → ⊥)
  fault_spells_none n ts fault e count faults.OutOfMemory t = tt
  fault_spells_none n ts reading.Memory e count (faults.BadText token) t = absurd t
  fault_spells_none n ts (reading.Text left) e count (faults.BadText token) t =
      λ a l. elim (whole_or_deep n ts a l)
      [ inl h ↦ (let x = sym e ∙ h in cc) | inr h ↦ (let x = sym e ∙ h in cc) ]

  -- at the fault token
  pub fault_at_token : (n : ℕ) (ts : List Lexeme) (fault : ReadFault)
      → Fails fault (whole (r n) ts) → (count : ℕ) → length ts ≡ count → (answer : TextFault)
      → AtToken answer (FirstLeft count fault) → AreOfTokens ts
      → AtToken answer (IsFaultToken L ts)
  fault_at_token n ts fault e count same faults.OutOfMemory t each = tt
  fault_at_token n ts reading.Memory e count same (faults.BadText token) t each = absurd t
  fault_at_token n ts (reading.Text left) e count same (faults.BadText token) t each =
      let place : suc (length ts - left) ≡ token = omega arith in
      subst (λ (z : ℕ). IsFaultToken L ts z) place (whole_fault n ts left each e)

  -- the same, as the place where the list is cut
  pub fault_cuts : (n : ℕ) (ts : List Lexeme) (fault : ReadFault)
      → Fails fault (whole (r n) ts) → (count : ℕ) → length ts ≡ count → (answer : TextFault)
      → AtToken answer (FirstLeft count fault) → AtToken answer (Cut L ts)
  fault_cuts n ts fault e count same faults.OutOfMemory t = tt
  fault_cuts n ts reading.Memory e count same (faults.BadText token) t = absurd t
  fault_cuts n ts (reading.Text left) e count same (faults.BadText token) t =
      let place : suc (length ts - left) ≡ token = omega arith in
      subst (λ (z : ℕ). Cut L ts z) place (whole_cut n ts left e)
