use Rattle.std.proofs.Common.{◌∷◌, ◌-◌, true, false, ap, sym, ◌∙◌, subst, drop, length, take}
use Rattle.std.specs.Prelude.{Some}
use Rattle.std.specs.Str.{IsAscii}
use Rattle.std.proofs.lemmas.Str.{IsAscii-take, IsAscii-drop}
use Rattle.model_text.specs.Lexemes.{lexeme_at}
use Rattle.text_tokens.proofs.AsciiLemmas.{of_kind, token_in, own_ascii, plain_first, literal_first}
use Rattle.text_tokens.proofs.WithinLemmas.{first_same}
use Rattle.text_tokens.specs.Ascii.{left_behind}
use Rattle.text_tokens.specs.Lexemes.{meant}
use Rattle.text_tokens.specs.Tokens.{kind_of}
use Rattle.text_tokens.specs.declared.tokens.TokenKind.TheVariants.{Literal}
use Rattle.text_tokens.proofs.ascii.AsciiFront.token.Goals as goal

pub part-own-requires : goal.part-own-requires
part-own-requires c =
    let self = c.args.self in
    let is = of_kind _ _ _ _ _ _ self.settled c.requires in
    let p = token_in _ _ _ (kind_of c.args.kind) is.within is.stands in
    p.1

pub text_of-requires : goal.text_of-requires
text_of-requires c =
    let self = c.args.self in
    let own = take self.length (drop self.from self.bytes.now) in
    subst IsAscii (sym (c.inside_of.ensures
    ∙ ap (λ own. take (length own - 2) (drop 1 own)) c.part-own.ensures))
    (IsAscii-take (drop 1 own) (length own - 2)
    (IsAscii-drop own 1 (own_ascii _ self.from self.length self.settled.ascii)))

pub returns-in-Literal : goal.returns-in-Literal
returns-in-Literal c =
    let self = c.args.self in
    let is = of_kind _ _ _ _ _ _ self.settled (c.requires ∙ ap Some c.in-Literal.is) in
    let text = c.text_of.ensures ∙ c.inside_of.ensures
    ∙ ap (λ own. take (length own - 2) (drop 1 own)) c.part-own.ensures in
    first_same self.most self.open _ _ (literal_first _ _ _ _ is
    ∙ ap (λ t. lexeme_at (kind_of Literal) (meant Literal true t) self.line
    ∷ drop 1 (left_behind self.bytes.now self.from)) (sym text)
    ∙ ap (λ k. lexeme_at (kind_of k) (meant k true c.text_of.result.now) self.line
    ∷ drop 1 (left_behind self.bytes.now self.from)) (sym c.in-Literal.is))

pub returns-in_default : goal.returns-in_default
returns-in_default c =
    let self = c.args.self in
    let is = of_kind _ _ _ _ _ _ self.settled c.requires in
    first_same self.most self.open _ _ (plain_first _ _ _ _ _ is c.in_default.not-Literal
    ∙ ap (λ t. lexeme_at (kind_of c.args.kind) (meant c.args.kind false t) self.line
    ∷ drop 1 (left_behind self.bytes.now self.from))
    (sym (c.text_of-in_default.ensures ∙ c.part-own.ensures)))
