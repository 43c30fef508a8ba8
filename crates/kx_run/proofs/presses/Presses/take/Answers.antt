use Rattle.std.proofs.Common.{◌≡◌, ◌≢◌, ℕ, ◌<◌, ◌∙◌, All, List, None, Option, Some, ap, arith, get_or, length, length-set, not, set, subst, sym}
use Rattle.std.proofs.lemmas.List.Elements.{All-filter}
use Rattle.std.proofs.lemmas.List.Kept.{AllPairs-filter}
use Rattle.kx_run.specs.declared.held.HeldKey.{HeldKey}
use Rattle.kx_run.specs.Held.{AreDistinct, held_at, is_at, other_keys}
use Rattle.kx_run.specs.Presses.{AreEarlierDisturbed, ArePlaced, is_entry_of, keys_of, entry_index}
use Rattle.kx_run.proofs.Entries.{ArePlaced-emptied, earlier-emptied, entry_is, found_place, keys-emptied, length-emptied, read_place, unheld}
use Rattle.kx_run.proofs.HeldLists.{held_at-none, other_keys-none}
use Rattle.kx_run.proofs.presses.Presses.take.Goals as goal

-- the place that was read is the code's
at_place : (places : List (Option ℕ)) (es : List (Option HeldKey)) (code n place : ℕ) (o : Option ℕ) → ArePlaced places es → length places ≡ 4096 → code < 4096 → n ≡ code → o ≡ get_or places n o → o ≡ Some place → entry_index code es ≡ Some place
at_place places es code n place o placed long small same read found =
    sym (read_place places es code n o placed (omega arith) same read) ∙ found

pub index-key-requires : goal.index-key-requires
index-key-requires c =
    let es = c.self.inside.entries.items in
    let found = at_place c.self.inside.places.items es c.args.code c.from.result c.in-Some.place c.index.result.now c.self.invariant.places c.self.invariant.long c.requires c.from.ensures c.index.ensures c.in-Some.is in
    omega (arith, c.self.inside.entries.ok.0, c.from-place.ensures, (found_place (is_entry_of c.args.code) es c.in-Some.place None found).0)

pub index_mut-requires : goal.index_mut-requires
index_mut-requires c =
    let es = c.self.inside.entries.items in
    let found = at_place c.self.inside.places.items es c.args.code c.from.result c.in-Some.place c.index.result.now c.self.invariant.places c.self.invariant.long c.requires c.from.ensures c.index.ensures c.in-Some.is in
    omega (arith, c.self.inside.entries.ok.0, c.from-place.ensures, (found_place (is_entry_of c.args.code) es c.in-Some.place None found).0)

pub overflow_sub-self : goal.overflow_sub-self
overflow_sub-self c =
    let es = c.self.inside.entries.items in
    let found = at_place c.self.inside.places.items es c.args.code c.from.result c.in-Some.place c.index.result.now c.self.invariant.places c.self.invariant.long c.requires c.from.ensures c.index.ensures c.in-Some.is in
    let at = found_place (is_entry_of c.args.code) es c.in-Some.place None found in
    omega (arith, c.self.invariant.count, length-emptied c.args.code es c.in-Some.place None at.0 at.1)

pub invariant_of-self : goal.invariant_of-self
invariant_of-self c =
    let es = c.self.inside.entries.items in
    let places = c.self.inside.places.items in
    let code = c.args.code in
    let found = at_place places es code c.from.result c.in-Some.place c.index.result.now c.self.invariant.places c.self.invariant.long c.requires c.from.ensures c.index.ensures c.in-Some.is in
    let at = found_place (is_entry_of code) es c.in-Some.place None found in
    let here : c.from-place.result ≡ c.in-Some.place = c.from-place.ensures in
    let less = length-emptied code es c.in-Some.place None at.0 at.1 in
    let left : keys_of (set es c.from-place.result None) ≡ other_keys code (keys_of es) =
    ap (λ n. keys_of (set es n None)) here ∙ keys-emptied code es c.in-Some.place None c.self.invariant.distinct at.0 at.1 in
    record {
      distinct = subst AreDistinct (sym left) (AllPairs-filter (λ a b. a.code ≢ b.code) (λ key. not (is_at code key)) (keys_of es) c.self.invariant.distinct);
      codes = subst (All (λ key. key.code < 4096)) (sym left) (All-filter (λ key. not (is_at code key)) (λ key. key.code < 4096) (keys_of es) c.self.invariant.codes);
      count = omega (arith, c.self.invariant.count, less, ap (λ n. length (keys_of (set es n None))) here);
      long = length-set places c.from-in-Some.result None ∙ c.self.invariant.long;
      places = subst (λ n. ArePlaced (set places n None) (set es c.from-place.result None)) (sym c.from-in-Some.ensures)
          (subst (λ n. ArePlaced (set places code None) (set es n None)) (sym here)
          (ArePlaced-emptied places es code c.in-Some.place c.self.invariant.places c.self.invariant.distinct found));
      earlier = subst (λ n. AreEarlierDisturbed (set es n None)) (sym here) (earlier-emptied es c.in-Some.place at.0 c.self.invariant.earlier);
      room = c.self.invariant.room;
    }

pub returns-in-None-clause-found : goal.returns-in-None-clause-found
returns-in-None-clause-found c =
    let es = c.self.inside.entries.items in
    let read = read_place c.self.inside.places.items es c.args.code c.from.result c.index.result.now c.self.invariant.places (omega (arith, c.self.invariant.long, c.requires)) c.from.ensures c.index.ensures in
    sym (ap (held_at c.args.code) (sym c.self.view_is) ∙ held_at-none c.args.code (keys_of es) (unheld c.args.code es (sym read ∙ c.in-None.is)))

pub returns-in-None-clause-rest : goal.returns-in-None-clause-rest
returns-in-None-clause-rest c =
    let es = c.self.inside.entries.items in
    let read = read_place c.self.inside.places.items es c.args.code c.from.result c.index.result.now c.self.invariant.places (omega (arith, c.self.invariant.long, c.requires)) c.from.ensures c.index.ensures in
    sym c.self.view_is
    ∙ sym (other_keys-none c.args.code (keys_of es) (unheld c.args.code es (sym read ∙ c.in-None.is)))
    ∙ ap (other_keys c.args.code) c.self.view_is

pub returns-in-Some-clause-found : goal.returns-in-Some-clause-found
returns-in-Some-clause-found c =
    let es = c.self.inside.entries.items in
    let code = c.args.code in
    let found = at_place c.self.inside.places.items es code c.from.result c.in-Some.place c.index.result.now c.self.invariant.places c.self.invariant.long c.requires c.from.ensures c.index.ensures c.in-Some.is in
    let at = found_place (is_entry_of code) es c.in-Some.place c.index-key.result.now found in
    c.index-key.ensures
    ∙ ap (λ n. get_or es n c.index-key.result.now) c.from-place.ensures
    ∙ entry_is code es c.in-Some.place c.index-key.result.now c.self.invariant.distinct at.0 at.1
    ∙ ap (held_at code) c.self.view_is

pub returns-in-Some-clause-rest : goal.returns-in-Some-clause-rest
returns-in-Some-clause-rest c =
    let es = c.self.inside.entries.items in
    let code = c.args.code in
    let found = at_place c.self.inside.places.items es code c.from.result c.in-Some.place c.index.result.now c.self.invariant.places c.self.invariant.long c.requires c.from.ensures c.index.ensures c.in-Some.is in
    let at = found_place (is_entry_of code) es c.in-Some.place None found in
    ap (λ n. keys_of (set es n None)) c.from-place.ensures
    ∙ keys-emptied code es c.in-Some.place None c.self.invariant.distinct at.0 at.1
    ∙ ap (other_keys code) c.self.view_is
