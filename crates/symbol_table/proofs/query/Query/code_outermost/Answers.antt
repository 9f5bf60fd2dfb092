-- `symbol_table::query::Query::code_outermost` meets its contract: the code of what was found.
use Prim.Native.Nat.{ℕ}
use mathlib.Core.Path.{◌≡◌, subst, ap}
use mathlib.Core.List.{List, []}
use native.Mathlib.Omega.{arith}
use borrow.Author.Rules.{rules}
use Rattle.std.specs.Prelude.{Ok, Err, Option, Some, None}
use Rattle.std.specs.Option.{MatchOption, IsSomeAnd}
use Rattle.std.specs.Result.{result_ok}
use Rattle.definition.specs.SymbolTable.{Symbol, Resolved}
use Rattle.symbol_table.specs.declared.Found.{Found}
use Rattle.symbol_table.specs.declared.LookupError.{LookupError}
use Rattle.symbol_table.specs.declared.LookupError.TheVariants.{Undefined, Full}
use Rattle.symbol_table.specs.declared.query.Query.{Query}
use Rattle.symbol_table.specs.Contract.{Lookup, resolved_of, outermost_of}
use Rattle.symbol_table.specs.Lookups.{name_of, words_of, globals_of_area, HasCode}
use Rattle.symbol_table.proofs.Resolving.{outermost_found, outermost_far, outermost_none}
use Rattle.symbol_table.proofs.query.Query.code_outermost.Goals as goal

-- a refusal is no symbol
not_found : (e : LookupError) (s : Symbol) → resolved_of (Err e) [] ≡ Resolved.found s [] → ⊥
not_found Undefined s e = let z : ◌≡◌ {A = ℕ} 0 1 = cc in omega arith
not_found Full s e = let z : ◌≡◌ {A = ℕ} 0 1 = cc in omega arith

-- the code of what was found
abbrev code_of : Lookup → Option ℕ
code_of (Ok f) = Some f.code
code_of (Err e) = None

-- it is what `ok` and `map` take out of the answer
taken : {P : Found → ℕ → Type 0} → ((x : Found) (y : ℕ) → P x y → y ≡ x.code) → (a : Lookup) (o : Option Found) (r : Option ℕ) → o ≡ result_ok a
    → MatchOption o (r ≡ None) (λ x. IsSomeAnd r (P x)) → r ≡ code_of a
taken {P} h a o r e m = go a r (subst (λ o. MatchOption o (r ≡ None) (λ x. IsSomeAnd r (P x))) e m)
  where
    go : (a : Lookup) (r : Option ℕ) → MatchOption (result_ok a) (r ≡ None) (λ x. IsSomeAnd r (P x)) → r ≡ code_of a
    go (Ok f) (Some y) m = ap Some (h f y m)
    go (Ok f) None m = absurd m
    go (Err e) r m = m

-- and the one that the contract asks for
has_code : (q : Query) (t : List ℕ) (a : Lookup) → resolved_of a [] ≡ outermost_of (words_of q) (globals_of_area q t) (name_of q) → HasCode q t (code_of a)
has_code q t (Ok f) e = record { outermost = outermost_found _ _ _ _ e; far = outermost_far _ _ _ _ e }
has_code q t (Err x) e = record { outermost = outermost_none _ _ _ _ (not_found x) e; far = tt }

pub returns : goal.returns
returns c = rw (taken (λ x y p. search rules) _ _ _ c.ok.ensures.value c.map.ensures.cases) (has_code _ _ _ c.find_outermost.ensures.resolved)
