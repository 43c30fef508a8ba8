-- The laws of geometry.
use Rattle.std.proofs.Common.{cond, ℕ, zero, suc, ◌+◌, ◌≤◌, Bool, true, false, List, [], ◌∷◌, ◌++◌, drop, length, ◌≡◌, Ok, Err, refl, arith, ap, sym, ◌∙◌, subst, append-nil, append_assoc}
use Rattle.std.proofs.lemmas.List.{append_cancel_right}
use Rattle.kx_lex.specs.declared.token.Token.{Token}
use Rattle.kx_lex.specs.declared.fault.Fault.{Fault}
use Rattle.kx_lex.specs.Parsing.{Read, done}
use Rattle.kx_lex.specs.Kinds.{is_mark}
use Rattle.kx_lex.specs.Stops.{syntax_end, IsBehind, StopsWithin}
use Rattle.kx_lex.specs.Tokens.{open_brace, close_brace}
use Rattle.kx_lex.proofs.Laws.{done-same}
use Rattle.kx_lex.proofs.Lawful.{Lawful}
use Rattle.kx_lex.proofs.Nearby.{Nearby, SameFront, none, only, both, nothing-near}
use Rattle.kx_lex.proofs.Reasons.{behind_self, behind_more, behind_first}
use Rattle.kx_tree.specs.Geometry.{Balanced, nothing, other, nested, IsClosing, closing_read, geometry_read, geometry}

-- nothing closes it
abbrev GeometryBlames : List ℕ → List Token → Fault → Type 0
GeometryBlames text ts e = (e ≡ syntax_end text) × ((rest : List Token) → Balanced text ts rest → IsClosing text rest → ⊥)

Deep : List ℕ → ℕ → List Token → List Token → Type 0
Deep text zero ts rest = Balanced text ts rest × IsClosing text rest
Deep text (suc d) ts rest = (c : Token) × (mid : List Token) × Balanced text ts (c ∷ mid) × (is_mark open_brace c ≡ false) × (is_mark close_brace c ≡ true) × Deep text d mid rest

Deep-before : (text : List ℕ) (d : ℕ) (ts mid rest : List Token) → ((r : List Token) → Balanced text mid r → Balanced text ts r) → Deep text d mid rest → Deep text d ts rest
unfolding Deep
Deep-before text zero ts mid rest f h = (f rest h.0, h.1)
Deep-before text (suc d) ts mid rest f h = (h.0, h.1, f (h.0 ∷ h.1) h.2, h.3, h.4, h.5)

geometry-skips : (text : List ℕ) {ts rest : List Token} → Balanced text ts rest → (d : ℕ) → geometry_read text d ts ≡ geometry_read text d rest
geometry-skips text nothing d = refl
geometry-skips text (other h k b) d = rw (h, k) (geometry-skips text b d)
geometry-skips text (nested ho hc hd b1 b2) d = rw ho (geometry-skips text b1 (suc d) ∙ rw (hc, hd) (geometry-skips text b2 d))

pub geometry-again : (text : List ℕ) (ts : List Token) (x : Unit {0}) (rest : List Token) → Balanced text ts rest × IsClosing text rest → geometry_read text 0 ts ≡ done x rest
geometry-again text ts x rest s = geometry-skips text s.0 0 ∙ last rest s.1
  where
    last : (r : List Token) → IsClosing text r → geometry_read text 0 r ≡ done x r
    last r h = rw (h.2, h.3, h.4) refl

geometry-deep : (text : List ℕ) (ts : List Token) (d : ℕ) (rest : List Token) → geometry_read text d ts ≡ done tt rest → Deep text d ts rest
unfolding Deep
geometry-deep text [] d rest e = cc
geometry-deep text (t ∷ ts) d rest e = go (is_mark open_brace t) refl (is_mark close_brace t) refl d e (λ k. geometry-deep text ts k rest)
  where
    closes : (k : ℕ) → is_mark open_brace t ≡ false → is_mark close_brace t ≡ true → closing_read k t ts (λ j. geometry_read text j ts) ≡ done tt rest → ((j : ℕ) → geometry_read text j ts ≡ done tt rest → Deep text j ts rest) → Deep text k (t ∷ ts) rest
    closes zero ho hc w ih = let same = done-same w in subst (λ (r : List Token). Balanced text (t ∷ ts) r × IsClosing text r) same.1 (nothing, (t, ts, refl, ho, hc))
    closes (suc j) ho hc w ih = (t, ts, nothing, ho, hc, ih j w)

    go : (o : Bool) → is_mark open_brace t ≡ o → (c : Bool) → is_mark close_brace t ≡ c → (k : ℕ) → cond o (geometry_read text (suc k) ts) (cond c (closing_read k t ts (λ j. geometry_read text j ts)) (geometry_read text k ts)) ≡ done tt rest → ((j : ℕ) → geometry_read text j ts ≡ done tt rest → Deep text j ts rest) → Deep text k (t ∷ ts) rest
    go true ho c hc k w ih = let below = ih (suc k) w in Deep-before text k (t ∷ ts) below.1 rest (λ r b. nested ho below.3 below.4 below.2 b) below.5
    go false ho true hc k w ih = closes k ho hc w ih
    go false ho false hc k w ih = Deep-before text k (t ∷ ts) ts rest (λ r b. other ho hc b) (ih k w)

pub geometry-takes : (text : List ℕ) (ts : List Token) (x : Unit {0}) (rest : List Token) → geometry_read text 0 ts ≡ done x rest → Balanced text ts rest × IsClosing text rest
unfolding Deep
geometry-takes text ts x rest e = geometry-deep text ts 0 rest e

geometry-fault : (text : List ℕ) (ts : List Token) (d : ℕ) (e : Fault) → geometry_read text d ts ≡ Err e → e ≡ syntax_end text
geometry-fault text [] d e w = let same : syntax_end text ≡ e = cc in sym same
geometry-fault text (t ∷ ts) d e w = go (is_mark open_brace t) (is_mark close_brace t) d w (λ k. geometry-fault text ts k e)
  where
    closes : (k : ℕ) → closing_read k t ts (λ j. geometry_read text j ts) ≡ Err e → ((j : ℕ) → geometry_read text j ts ≡ Err e → e ≡ syntax_end text) → e ≡ syntax_end text
    closes zero w ih = cc
    closes (suc j) w ih = ih j w

    go : (o c : Bool) (k : ℕ) → cond o (geometry_read text (suc k) ts) (cond c (closing_read k t ts (λ j. geometry_read text j ts)) (geometry_read text k ts)) ≡ Err e → ((j : ℕ) → geometry_read text j ts ≡ Err e → e ≡ syntax_end text) → e ≡ syntax_end text
    go true c k w ih = ih (suc k) w
    go false true k w ih = closes k w ih
    go false false k w ih = ih k w

pub geometry-fails : (text : List ℕ) (ts : List Token) (e : Fault) → geometry_read text 0 ts ≡ Err e → GeometryBlames text ts e
geometry-fails text ts e w = (geometry-fault text ts 0 e w, λ rest b c. let good : geometry_read text 0 ts ≡ done tt rest = geometry-again text ts tt rest (b, c) in cc)

pub geometry-blamed : (text : List ℕ) (ts : List Token) (e : Fault) → GeometryBlames text ts e → geometry_read text 0 ts ≡ Err e
geometry-blamed text ts e h = go (geometry_read text 0 ts) refl
  where
    go : (w : Read (Unit {0})) → geometry_read text 0 ts ≡ w → w ≡ Err e
    go (Ok p) same = let s = geometry-takes text ts p.0 p.1 same in absurd (h.1 p.1 s.0 s.1)
    go (Err f) same = rw (geometry-fault text ts 0 f same, h.0) refl

Balanced-uses : (text : List ℕ) {ts rest : List Token} → Balanced text ts rest → length rest ≤ length ts
Balanced-uses text nothing = omega arith
Balanced-uses text (other h k b) = let less = Balanced-uses text b in omega arith
Balanced-uses text (nested ho hc hd b1 b2) = let one = Balanced-uses text b1 in let two = Balanced-uses text b2 in omega arith

pub geometry-uses : (text : List ℕ) (ts : List Token) (x : Unit {0}) (rest : List Token) → Balanced text ts rest × IsClosing text rest → length rest + 0 ≤ length ts
geometry-uses text ts x rest s = let less = Balanced-uses text s.0 in omega arith

pub geometry-behind : (text : List ℕ) {ts rest : List Token} → Balanced text ts rest → IsBehind ts rest
geometry-behind text nothing = behind_self refl
geometry-behind text (other {t} {ts} h k b) = behind_more (behind_first t ts) (geometry-behind text b)
geometry-behind text (nested {o} {c} {ts} {mid} ho hc hd b1 b2) = behind_more (behind_first o ts) (behind_more (geometry-behind text b1) (behind_more (behind_first c mid) (geometry-behind text b2)))

pub geometry-stops : (text : List ℕ) (ts : List Token) (e : Fault) → GeometryBlames text ts e → StopsWithin text ts e
geometry-stops text ts e h = record { rest = []; behind = record { before = ts; tokens = sym (append-nil ts) }; why = h.0 }

-- tokens in pairs stay so before other tokens
Balanced-near : (text : List ℕ) {ts rest : List Token} → Balanced text ts rest → (before more : List Token) → ts ≡ before ++ rest → Balanced text (before ++ more) more
Balanced-near text {ts} nothing before more e = let same : before ++ more ≡ more = nothing-near before ts more (sym e) in subst (λ (us : List Token). Balanced text us more) (sym same) nothing
Balanced-near text (other {t} {ts} h k b) [] more e = let less = Balanced-uses text b in let same = ap (λ (us : List Token). length us) e in absurd (omega arith)
Balanced-near text (other {t} {ts} {rest} h k b) (c ∷ before) more e =
    let same : t ≡ c = cc in
    let after = Balanced-near text b before more (ap (λ (us : List Token). drop 1 us) e) in
    subst (λ (u : Token). Balanced text (u ∷ (before ++ more)) more) same (other h k after)
Balanced-near text (nested {o} {c} {ts} {mid} ho hc hd b1 b2) [] more e =
    let one = Balanced-uses text b1 in
    let two = Balanced-uses text b2 in
    let same = ap (λ (us : List Token). length us) e in
    absurd (omega arith)
Balanced-near text (nested {o} {c} {ts} {mid} {rest} ho hc hd b1 b2) (d ∷ before) more e =
    let same : o ≡ d = cc in
    let one = geometry-behind text b1 in
    let two = geometry-behind text b2 in
    let tail : ts ≡ before ++ rest = ap (λ (us : List Token). drop 1 us) e in
    let whole : before ++ rest ≡ (one.before ++ (c ∷ two.before)) ++ rest = rw append_assoc (sym tail ∙ one.tokens ∙ ap (λ (us : List Token). one.before ++ (c ∷ us)) two.tokens) in
    let split = append_cancel_right before (one.before ++ (c ∷ two.before)) rest whole in
    let there : before ++ more ≡ one.before ++ (c ∷ (two.before ++ more)) = ap (λ (us : List Token). us ++ more) split ∙ append_assoc one.before (c ∷ two.before) more in
    let inner = Balanced-near text b1 one.before (c ∷ (two.before ++ more)) one.tokens in
    let outer = Balanced-near text b2 two.before more two.tokens in
    subst (λ (u : Token). Balanced text (u ∷ (before ++ more)) more) same
    (subst (λ (us : List Token). Balanced text (o ∷ us) more) (sym there) (nested ho hc hd inner outer))

closing-near : (text : List ℕ) {rest more : List Token} → SameFront rest more → IsClosing text rest → IsClosing text more
closing-near text none c = c
closing-near text only c = c
closing-near text (both {t} {u} {ts} {us}) c =
    let same : c.0 ≡ t = ap (λ (vs : List Token). first_or t vs) (sym c.2) in
    (t, u ∷ us, refl, subst (λ (v : Token). is_mark open_brace v ≡ false) same c.3, subst (λ (v : Token). is_mark close_brace v ≡ true) same c.4)
  where
    first_or : Token → List Token → Token
    first_or v [] = v
    first_or v (w ∷ ws) = w

pub geometry-near : (text : List ℕ) → Nearby (geometry text)
unfolding geometry
geometry-near text before rest more x h s = (Balanced-near text s.0 before more refl, closing-near text h s.1)

unfoldable pub geometry-lawful : (text : List ℕ) → Lawful text (geometry text)
unfolding geometry
geometry-lawful text = record {
  least = 0;
  takes = geometry-takes text;
  again = geometry-again text;
  fails = geometry-fails text;
  blamed = geometry-blamed text;
  uses = geometry-uses text;
  behind = λ ts x rest s. geometry-behind text s.0;
  stops = geometry-stops text;
  near = geometry-near text;
}
