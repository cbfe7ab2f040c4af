use Rattle.std.proofs.Common.{◌≡◌, ℕ, ◌-◌, List, [], ◌∷◌, ◌++◌, map, length, get_or, ap, ◌∙◌, arith, length-append}
use Rattle.std.proofs.Math.ListN.{set}
use Rattle.std.proofs.Math.Seq.{set-append_seam, get_or-append_seam}
use Rattle.std.proofs.lemmas.List.{map-append}
use Rattle.std.proofs.lemmas.Result.{on_ok_weaker}
use Rattle.model_text.specs.Tokens.{token_text}
use Rattle.text_tokens.specs.declared.tokens.Token.{Token}
use Rattle.text_tokens.specs.Tokens.{kind_of, token_of}
use Rattle.text_tokens.proofs.reading.push_token.Goals as goal

-- the last token is the one put there
last_is : (before now : List Token) (item last : Token) → now ≡ before ++ item ∷ []
    → last ≡ get_or now (length now - 1) last → last ≡ item
last_is before now item last put found =
    let at : length now - 1 ≡ length before =
    omega (arith, ap length put, length-append before (item ∷ [])) in
    found ∙ ap (λ n. get_or now n last) at ∙ ap (λ ts. get_or ts (length before) last) put
    ∙ get_or-append_seam before item [] last

-- with its text written it stands where it did
text_put : (before now : List Token) (item last : Token) (own text : List ℕ)
    → now ≡ before ++ item ∷ [] → last ≡ item → item.text ≡ []
    → text ≡ last.text ++ own
    → map token_of (set now (length now - 1) (record last { text = text }))
    ≡ map token_of before ++ token_of (record item { text = own }) ∷ []
text_put before now item last own text put is none e =
    let at : length now - 1 ≡ length before =
    omega (arith, ap length put, length-append before (item ∷ [])) in
    let written : text ≡ own = e ∙ ap (λ l. l.text ++ own) is ∙ ap (λ xs. xs ++ own) none in
    ap (λ n. map token_of (set now n (record last { text = text }))) at
    ∙ ap (λ ts. map token_of (set ts (length before) (record last { text = text }))) put
    ∙ ap (map token_of) (set-append_seam before item [] (record last { text = text }))
    ∙ map-append token_of before (record last { text = text } ∷ [])
    ∙ ap (λ l. map token_of before ++ token_of (record l { text = text }) ∷ []) is
    ∙ ap (λ xs. map token_of before ++ token_of (record item { text = xs }) ∷ []) written

pub returns-in-Some : goal.returns-in-Some
returns-in-Some c =
    let is = last_is c.args.tokens.now c.push.new.self _ c.in-Some.token.now
    c.in_ok-push.ensures.ok c.in-Some.ensures.item.1 in
    on_ok_weaker _
    (text_put c.args.tokens.now c.push.new.self _ c.in-Some.token.now
    (token_text (kind_of c.args.kind) c.args.own.now) c.put_text.new.text
    c.in_ok-push.ensures.ok is c.new.ensures) c.put_text.ensures
