use Rattle.std.proofs.Common.{get_or, ◌≡◌, ◌+◌, ◌∷◌, [], List, drop, subst, None}
use Rattle.std.proofs.lemmas.List.{drop_all}
use Rattle.kx_include.specs.Shared.{links_body}
use Rattle.kx_include.specs.declared.expansion.Link.{Link}
use Rattle.kx_tree.specs.declared.tree.Mode.TheVariants.{Augment}
use Rattle.kx_codes.specs.Pairs.{Pair}
use Rattle.kx_merge.proofs.Going.{read_again}
use Rattle.kx_codes.proofs.Behind.{Going, going_on, going_blames, split_link, leaves_all, err_gathered}
use Rattle.kx_codes.proofs.walking.gather_links.Goals as goal

pub links-preserved : goal.links-preserved
links-preserved c = λ names bodies are.
    let ls = c.args.links.now in
    let i = c.links.link-index in
    let x : Link = get_or ls i (record { mode = Augment; group = None; map = 0 }) in
    going_on (λ (ps : List Pair). ps ≡ []) (links_body bodies ls) (links_body bodies (drop i ls)) (links_body bodies (x ∷ [])) (links_body bodies (drop (i + 1) ls))
    names names c.links.joined c.gather_link.new.gathered
    (split_link bodies ls i x c.links-test.true (read_again ls i (record { mode = Augment; group = None; map = 0 }) c.links-test.true)) (c.links.invariant names bodies are) (c.in_ok-gather_link.ensures.took names bodies are)

pub returns-in_err-gather_link : goal.returns-in_err-gather_link
returns-in_err-gather_link c = λ names bodies are.
    let ls = c.args.links.now in
    let i = c.links.link-index in
    let x : Link = get_or ls i (record { mode = Augment; group = None; map = 0 }) in
    let e = c.in_err-gather_link.field-0.0 in
    err_gathered names c.from_residual-in_err-gather_link.result (links_body bodies ls) e c.from_residual-in_err-gather_link.ensures.1
    (going_blames (λ (ps : List Pair). ps ≡ []) (links_body bodies ls) (links_body bodies (drop i ls)) (links_body bodies (x ∷ [])) (links_body bodies (drop (i + 1) ls)) names c.links.joined e
    (split_link bodies ls i x c.links-test.true (read_again ls i (record { mode = Augment; group = None; map = 0 }) c.links-test.true)) (c.links.invariant names bodies are) (c.in_err-gather_link.ensures.fault names bodies are))

pub returns : goal.returns
returns c = λ names bodies are.
    leaves_all names c.links.joined (links_body bodies c.args.links.now)
    (subst (λ ls. Going (λ ps. ps ≡ []) names c.links.joined (links_body bodies c.args.links.now) (links_body bodies ls)) (drop_all c.links.link-index c.args.links.now c.links-test.false) (c.links.invariant names bodies are))
