use Rattle.std.proofs.Common.{refl, sym, subst, inl, inr, arith}
use Rattle.text_tokens.specs.Ascii.{Passes}
use Rattle.text_tokens.specs.declared.pieces.Start.TheVariants.{Opening, Closing, LoneSymbol}
use Rattle.text_tokens.specs.declared.tokens.TokenKind.TheVariants as kind
use Rattle.text_tokens.proofs.AsciiLemmas.{word_stands}
use Rattle.text_tokens.proofs.WithinLemmas.{lone_within, plain_within, logic_near, digits_near}
use Rattle.text_tokens.proofs.ascii_watching.near_token.Goals as goal

pub returns-in_ok-opened-in-Opening : goal.returns-in_ok-opened-in-Opening
returns-in_ok-opened-in-Opening c =
    let behind = c.in_ok-opened-in-Opening.ensures in
    subst (Passes c.args.most c.args.before c.args.bytes.now c.args.place kind.Symbol 1)
    (sym behind.0) (lone_within c.args.bytes.now c.args.place c.args.most c.args.before Opening
    c.requires.ascii c.requires.within c.in-Opening.ensures (inl refl)
    (omega (arith, behind.0, behind.1)))

pub returns-in-Closing : goal.returns-in-Closing
returns-in-Closing c =
    subst (Passes c.args.most c.args.before c.args.bytes.now c.args.place kind.Symbol 1)
    (sym c.saturating_sub.ensures) (lone_within c.args.bytes.now c.args.place c.args.most
    c.args.before Closing c.requires.ascii c.requires.within c.in-Closing.ensures
    (inr (inl refl)) (omega (arith, c.requires.few)))

pub returns-in-LoneSymbol : goal.returns-in-LoneSymbol
returns-in-LoneSymbol c = lone_within c.args.bytes.now c.args.place c.args.most c.args.before
    LoneSymbol c.requires.ascii c.requires.within c.in-LoneSymbol.ensures (inr (inr refl))
    c.requires.few

pub returns-in-Word : goal.returns-in-Word
returns-in-Word c = plain_within c.args.bytes.now c.args.place c.word_from.result c.args.most
    c.args.before kind.Word (omega (arith, c.requires.within)) c.requires.few (λ e. cc) (λ e. cc)
    (word_stands c.args.bytes.now c.args.place c.word_from.result c.requires.within
    c.in-Word.ensures c.word_from.ensures)

pub returns-in_ok-length-in-LogicName : goal.returns-in_ok-length-in-LogicName
returns-in_ok-length-in-LogicName c =
    let length = c.in_ok-length-in-LogicName.ensures in
    logic_near c.args.bytes.now c.args.place c.in_ok-length-in-LogicName.length
    c.logic_from.result c.args.most c.args.before c.requires.within c.in-LogicName.ensures
    c.logic_from.ensures length.0 length.1 c.requires.few

pub returns-in-Token : goal.returns-in-Token
returns-in-Token c = digits_near c.args.bytes.now c.args.place c.in-Token.length c.args.most
    c.args.before c.in-Token.kind c.requires.ascii c.requires.within c.in-Digit.ensures
    c.in-Token.ensures c.requires.few
