-- The numbers of two kinds differ.
use Prim.Native.Nat.{ℕ}
use mathlib.Core.List.{[], ◌∷◌}
use mathlib.Core.Path.{◌≡◌, refl, sym, ap, ◌∙◌}
use lib.ListN.{get_or}
use Rattle.text.specs.Kind.{number_of}
use Rattle.text.specs.declared.kind.Kind.{Kind}
use Rattle.text.specs.declared.kind.Kind.TheVariants.{Let, Return, Name, Integer, String, True, False, If, Fn, Bang, OpenBrace, OpenParen, OpenBracket, Minus, Plus, Star, Slash, Less, Greater, Equal, Unequal, Else, Assign, CloseParen, CloseBracket, CloseBrace, Comma, Colon, Semicolon, Ended}

-- the kind of a number
abbrev numbered : ℕ → Kind
numbered n =
    get_or (
    Let
    ∷ Return
    ∷ Name
    ∷ Integer
    ∷ String
    ∷ True
    ∷ False
    ∷ If
    ∷ Fn
    ∷ Bang
    ∷ OpenBrace
    ∷ OpenParen
    ∷ OpenBracket
    ∷ Minus
    ∷ Plus
    ∷ Star
    ∷ Slash
    ∷ Less
    ∷ Greater
    ∷ Equal
    ∷ Unequal
    ∷ Else
    ∷ Assign
    ∷ CloseParen
    ∷ CloseBracket
    ∷ CloseBrace
    ∷ Comma
    ∷ Colon
    ∷ Semicolon
    ∷ []
    ) n Ended

back : (k : Kind) → numbered (number_of k) ≡ k
back Let = refl
back Return = refl
back Name = refl
back Integer = refl
back String = refl
back True = refl
back False = refl
back If = refl
back Fn = refl
back Bang = refl
back OpenBrace = refl
back OpenParen = refl
back OpenBracket = refl
back Minus = refl
back Plus = refl
back Star = refl
back Slash = refl
back Less = refl
back Greater = refl
back Equal = refl
back Unequal = refl
back Else = refl
back Assign = refl
back CloseParen = refl
back CloseBracket = refl
back CloseBrace = refl
back Comma = refl
back Colon = refl
back Semicolon = refl
back Ended = refl

pub apart : (k j : Kind) → (k ≡ j → ⊥) → number_of k ≡ number_of j → ⊥
apart k j f e = f (sym (back k) ∙ ap numbered e ∙ back j)
