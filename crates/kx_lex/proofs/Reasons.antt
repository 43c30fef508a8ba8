-- What stands after other tokens, and where reading stops in them.
use Rattle.std.specs.Option.{ok_or}
use Rattle.std.proofs.Common.{ℕ, List, [], ◌∷◌, ◌++◌, ◌≡◌, Option, Some, None, Err, inl, sym, refl, ◌∙◌, ap, append_assoc}
use Rattle.kx_lex.specs.declared.token.Token.{Token}
use Rattle.kx_lex.specs.declared.fault.Fault.{Fault}
use Rattle.kx_lex.specs.Stops.{syntax_at, StopsAt, IsBehind, StopsWithin}

pub behind_self : {ts rest : List Token} → ts ≡ rest → IsBehind ts rest
behind_self e = record { before = []; tokens = e }

pub behind_more : {ts mid rest : List Token} → IsBehind ts mid → IsBehind mid rest → IsBehind ts rest
behind_more {ts} {mid} {rest} a b = record { before = a.before ++ b.before; tokens = rw append_assoc (a.tokens ∙ ap (λ (r : List Token). a.before ++ r) b.tokens) }

pub behind_token : {ts rest : List Token} {t : Token} → ts ≡ t ∷ rest → IsBehind ts rest
behind_token {ts} {rest} {t} e = record { before = t ∷ []; tokens = e }

pub behind_first : (t : Token) (ts : List Token) → IsBehind (t ∷ ts) ts
behind_first t ts = record { before = t ∷ []; tokens = refl }

pub stops_behind : {text : List ℕ} {ts mid : List Token} {e : Fault} → IsBehind ts mid → StopsWithin text mid e → StopsWithin text ts e
stops_behind b s = record { rest = s.rest; behind = behind_more b s.behind; why = s.why }

pub stops_here : {text : List ℕ} {ts rest : List Token} {t : Token} {e : Fault} → ts ≡ t ∷ rest → StopsAt text t e → StopsWithin text ts e
stops_here {text} {ts} {rest} {t} {e} same s = record { rest = t ∷ rest; behind = behind_self same; why = s }

-- a token that a table doesn't know
pub ok_or-stops : (text : List ℕ) {A : Type 0} (t : Token) (entry : Option A) (e : Fault) → ok_or entry (syntax_at t) ≡ Err e → StopsAt text t e
ok_or-stops text t (Some x) e w = cc
ok_or-stops text t None e w = inl (let same : syntax_at t ≡ e = cc in sym same)
