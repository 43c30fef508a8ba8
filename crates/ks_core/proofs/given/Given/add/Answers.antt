use Rattle.std.proofs.Common.{[], ◌∷◌, ◌++◌, Some, cond, sym, ap, ◌∙◌, is_some, nat_cmp}
use Rattle.std.specs.Ordering.{is_eq}
use Rattle.std.specs.String.{string_eq}
use Rattle.kx_ordered.proofs.KeyPlaces.{insert_absent, unplaced}
use Rattle.ks_core.specs.Given.{entries_in, first_place}
use Rattle.ks_core.proofs.GivenLemmas.{entries_in-push, kept_place, not_there, noted_place}
use Rattle.ks_core.proofs.given.Given.add.Goals as goal

pub push-requires : goal.push-requires
push-requires c = not_there c.self.inside.keysyms.entries c.args.self.now c.in_ok-name.name c.args.name.now c.self.view_is c.in_ok-name.ensures.ok c.requires

pub push-requires-2 : goal.push-requires-2
push-requires-2 c = not_there c.self.inside.keysyms.entries c.args.self.now c.in_ok-name.name c.args.name.now c.self.view_is c.in_ok-name.ensures.ok c.requires

pub invariant_of-self-then-contains_key : goal.invariant_of-self-then-contains_key
invariant_of-self-then-contains_key c = λ keysym.
    let pairs = c.self.inside.keysyms.entries in
    let name = c.in_ok-name.name in
    let none = not_there pairs c.args.self.now name c.args.name.now c.self.view_is c.in_ok-name.ensures.ok c.requires in
    let there = c.if-contains_key.ensures ∙ ap is_some (c.self.invariant c.args.keysym) in
    let pushed = insert_absent string_eq name c.args.keysym pairs (unplaced (string_eq name) pairs none) ∙ sym c.in_ok-push.ensures.entries in
    c.self.invariant keysym ∙ kept_place pairs name c.args.keysym keysym there ∙ ap (λ es. first_place es keysym) pushed

pub returns-then-contains_key-clause-ok : goal.returns-then-contains_key-clause-ok
returns-then-contains_key-clause-ok c =
    let pairs = c.self.inside.keysyms.entries in
    let name = c.in_ok-name.name in
    let none = not_there pairs c.args.self.now name c.args.name.now c.self.view_is c.in_ok-name.ensures.ok c.requires in
    let pushed = insert_absent string_eq name c.args.keysym pairs (unplaced (string_eq name) pairs none) ∙ sym c.in_ok-push.ensures.entries in
    ap entries_in (sym pushed) ∙ entries_in-push pairs name c.args.keysym
    ∙ (λ j. c.self.view_is j ++ (c.in_ok-name.ensures.ok j, c.args.keysym) ∷ [])

pub invariant_of-self-in_default : goal.invariant_of-self-in_default
invariant_of-self-in_default c = λ keysym.
    let pairs = c.self.inside.keysyms.entries in
    let name = c.in_ok-name.name in
    let none = not_there pairs c.args.self.now name c.args.name.now c.self.view_is c.in_ok-name.ensures.ok c.requires in
    let unnamed = c.if-contains_key.ensures ∙ ap is_some (c.self.invariant c.args.keysym) in
    let pushed = insert_absent string_eq name c.args.keysym pairs (unplaced (string_eq name) pairs none) ∙ sym c.in_default.ensures.entries in
    c.in_ok-insert.ensures.updates.0 keysym
    ∙ (λ j. cond (is_eq (nat_cmp c.args.keysym keysym)) (Some (c.len.ensures j)) (c.self.invariant keysym j))
    ∙ noted_place pairs name c.args.keysym keysym unnamed ∙ ap (λ es. first_place es keysym) pushed

pub returns-clause-ok : goal.returns-clause-ok
returns-clause-ok c =
    let pairs = c.self.inside.keysyms.entries in
    let name = c.in_ok-name.name in
    let none = not_there pairs c.args.self.now name c.args.name.now c.self.view_is c.in_ok-name.ensures.ok c.requires in
    let pushed = insert_absent string_eq name c.args.keysym pairs (unplaced (string_eq name) pairs none) ∙ sym c.in_default.ensures.entries in
    ap entries_in (sym pushed) ∙ entries_in-push pairs name c.args.keysym
    ∙ (λ j. c.self.view_is j ++ (c.in_ok-name.ensures.ok j, c.args.keysym) ∷ [])
