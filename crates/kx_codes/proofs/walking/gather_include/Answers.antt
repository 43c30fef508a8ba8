use Rattle.std.proofs.Common.{ℕ, List, None, get_or, sym, subst}
use Rattle.kx_lex.specs.declared.fault.Fault.{Fault}
use Rattle.kx_tree.specs.declared.tree.Mode.TheVariants.{Augment}
use Rattle.kx_include.specs.Expansion.{Body, End, Inc}
use Rattle.kx_include.specs.Shared.{body_at, links_body}
use Rattle.kx_include.specs.declared.expansion.Link.{Link}
use Rattle.kx_codes.specs.Gathering.{AreGathered, Blames, Took}
use Rattle.kx_codes.proofs.Behind.{blamed_included, blamed_once, err_passed, memory_blamed, single, took_included, took_once}
use Rattle.kx_codes.proofs.walking.gather_include.Goals as goal

pub returns-in-len1-clause-took : goal.returns-in-len1-clause-took
returns-in-len1-clause-took c = λ names bodies are.
    let ls = c.args.links.now in
    let first : Link = record { mode = Augment; group = None; map = 0 } in
    let x : Link = get_or ls 0 first in
    subst (λ ys. Took names names c.args.gathered.now c.gather_link.new.gathered (Inc c.args.mode None (links_body bodies ys) End)) (sym (single ls first c.in-len1.len_at_least c.in-len1.len_below))
    (took_once names are.once c.args.gathered.now c.gather_link.new.gathered c.args.mode x.mode x.group (body_at bodies x.map) (c.in_ok-gather_link.ensures.took names bodies are))

pub returns-in_err-take_joined-clause-fault : goal.returns-in_err-take_joined-clause-fault
returns-in_err-take_joined-clause-fault c =
    err_passed c.from_residual-in_err-take_joined.result (λ (e : Fault). (names : List (List ℕ)) (bodies : List Body) → AreGathered names c.args.done.now bodies → Blames (Inc c.args.mode None (links_body bodies c.args.links.now) End) e) c.in_err-take_joined.field-0.0 c.from_residual-in_err-take_joined.ensures.1
    (λ names bodies are. memory_blamed (Inc c.args.mode None (links_body bodies c.args.links.now) End) c.in_err-take_joined.field-0.0 c.in_err-take_joined.ensures.err)

pub returns-in_err-gather_link-clause-fault : goal.returns-in_err-gather_link-clause-fault
returns-in_err-gather_link-clause-fault c =
    let ls = c.args.links.now in
    let first : Link = record { mode = Augment; group = None; map = 0 } in
    let x : Link = get_or ls 0 first in
    let e = c.in_err-gather_link.field-0.0 in
    err_passed c.from_residual.result (λ (e : Fault). (names : List (List ℕ)) (bodies : List Body) → AreGathered names c.args.done.now bodies → Blames (Inc c.args.mode None (links_body bodies c.args.links.now) End) e) e c.from_residual.ensures.1
    (λ names bodies are. subst (λ ys. Blames (Inc c.args.mode None (links_body bodies ys) End) e) (sym (single ls first c.in-len1.len_at_least c.in-len1.len_below))
    (blamed_once c.args.mode x.mode x.group (body_at bodies x.map) e (c.in_err-gather_link.ensures.fault names bodies are)))

pub returns-in_err-joined-clause-fault : goal.returns-in_err-joined-clause-fault
returns-in_err-joined-clause-fault c =
    err_passed c.from_residual-in_err-joined.result (λ (e : Fault). (names : List (List ℕ)) (bodies : List Body) → AreGathered names c.args.done.now bodies → Blames (Inc c.args.mode None (links_body bodies c.args.links.now) End) e) c.in_err-joined.field-0.0 c.from_residual-in_err-joined.ensures.1
    (λ names bodies are. blamed_included c.args.mode None (links_body bodies c.args.links.now) c.in_err-joined.field-0.0 (c.in_err-joined.ensures names bodies are))

pub returns-clause-took : goal.returns-clause-took
returns-clause-took c = λ names bodies are.
    took_included names are.once c.args.gathered.now c.take_joined.new.self c.in_ok-joined.joined c.args.mode None (links_body bodies c.args.links.now) (c.in_ok-joined.ensures names bodies are) c.in_ok-take_joined.ensures.took
