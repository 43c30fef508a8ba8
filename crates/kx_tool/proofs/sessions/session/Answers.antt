use Rattle.std.proofs.Common.{◌≡◌, ◌⊎◌, refl, subst}
use Rattle.kx_source.specs.Source.{HasFault, Means}
use Rattle.kx_lex.specs.declared.fault.Fault.TheVariants.{Memory}
use Rattle.kx_lines.specs.Input.{budget, coming}
use Rattle.kx_lines.specs.Sources.{ReadsSource}
use Rattle.kx_lines.proofs.Reading.{fails_from, within_from}
use Rattle.kx_tool.proofs.SessionLemmas.{fails_all, within_all, session_answered, session_refused, session_silent, session_stopped}
use Rattle.kx_tool.proofs.sessions.session.Goals as goal

pub returns-in-Ok-answer_lines-clause-answers : goal.returns-in-Ok-answer_lines-clause-answers
returns-in-Ok-answer_lines-clause-answers g c =
    let read = subst (λ b. ReadsSource (coming c.new-input.result (g.F.Feed.left c.args.feed.now)) (budget c.new-input.result) (coming c.read_source.new.input (g.F.Feed.left c.read_source.new.feed)) (budget c.read_source.new.input) c.in_ok-source.source.text.items b) c.if-not-source.false c.in_ok-source.ensures.source in
    let means = subst (λ s. Means s c.args.files.now c.args.names.now c.in-Ok.tables) c.as_slice.ensures.value c.in-Ok.ensures.means in
    session_answered g.O.Out.written g.O.Out.failures c.args.files.now c.args.names.now _ _ _ _ _ _ c.in-Ok.tables c.args.out.now c.answer_lines.new.out c.answer_lines.result c.new-input.ensures read means c.answer_lines.ensures.answers c.in-Ok-answer_lines.is

pub returns-clause-answers : goal.returns-clause-answers
returns-clause-answers g c =
    let read = subst (λ b. ReadsSource (coming c.new-input.result (g.F.Feed.left c.args.feed.now)) (budget c.new-input.result) (coming c.read_source.new.input (g.F.Feed.left c.read_source.new.feed)) (budget c.read_source.new.input) c.in_ok-source.source.text.items b) c.if-not-source.false c.in_ok-source.ensures.source in
    let means = subst (λ s. Means s c.args.files.now c.args.names.now c.in-Ok.tables) c.as_slice.ensures.value c.in-Ok.ensures.means in
    session_stopped g.O.Out.written g.O.Out.failures c.args.files.now c.args.names.now _ _ _ _ _ _ c.in-Ok.tables c.args.out.now c.answer_lines.new.out c.answer_lines.result c.in-Err-answer_lines.fault c.new-input.ensures read means c.answer_lines.ensures.answers c.in-Err-answer_lines.is

pub returns-clause-read : goal.returns-clause-read
returns-clause-read g c = λ is.
    let read = subst (λ b. ReadsSource (coming c.new-input.result (g.F.Feed.left c.args.feed.now)) (budget c.new-input.result) (coming c.read_source.new.input (g.F.Feed.left c.read_source.new.feed)) (budget c.read_source.new.input) c.in_ok-source.source.text.items b) c.if-not-source.false c.in_ok-source.ensures.source in
    let came = read.came refl in
    fails_all g.F.Feed.left g.F.Feed.taken g.F.Feed.failures c.args.feed.now c.answer_lines.new.feed c.new-input.result c.new-input.ensures
    (fails_from g.F.Feed.left g.F.Feed.taken g.F.Feed.failures c.args.feed.now c.read_source.new.feed c.answer_lines.new.feed _ _ _ c.in_ok-source.ensures.counted c.in_ok-source.ensures.taken came.1 (c.in-Err-answer_lines.ensures.read (cc)))

pub returns-in-Err-clause-answers : goal.returns-in-Err-clause-answers
returns-in-Err-clause-answers g c =
    session_refused g.O.Out.written g.O.Out.failures c.args.files.now c.args.names.now _ _ _ _ _ _ _ c.args.out.now c.in-Err.fault c.new-input.ensures c.in_ok-source.ensures.source
    (subst (λ s. (c.in-Err.fault ≡ Memory) ⊎ HasFault s c.args.files.now c.args.names.now c.in-Err.fault) c.as_slice.ensures.value c.in-Err.ensures.fault)

pub returns-then-not-source-clause-answers : goal.returns-then-not-source-clause-answers
returns-then-not-source-clause-answers g c =
    let read = subst (λ b. ReadsSource (coming c.new-input.result (g.F.Feed.left c.args.feed.now)) (budget c.new-input.result) (coming c.read_source.new.input (g.F.Feed.left c.read_source.new.feed)) (budget c.read_source.new.input) c.in_ok-source.source.text.items b) c.if-not-source.true c.in_ok-source.ensures.source in
    let means = subst (λ s. Means s c.args.files.now c.args.names.now c.in-Ok.tables) c.as_slice.ensures.value c.in-Ok.ensures.means in
    session_silent g.O.Out.written g.O.Out.failures c.args.files.now c.args.names.now _ _ _ _ _ _ c.in-Ok.tables c.args.out.now c.new-input.ensures read means

pub returns-in-Ok-answer_lines-clause-whole : goal.returns-in-Ok-answer_lines-clause-whole
returns-in-Ok-answer_lines-clause-whole g c =
    let read = subst (λ b. ReadsSource (coming c.new-input.result (g.F.Feed.left c.args.feed.now)) (budget c.new-input.result) (coming c.read_source.new.input (g.F.Feed.left c.read_source.new.feed)) (budget c.read_source.new.input) c.in_ok-source.source.text.items b) c.if-not-source.false c.in_ok-source.ensures.source in
    let came = read.came refl in
    within_all (g.F.Feed.left c.args.feed.now) c.new-input.result c.new-input.ensures (within_from _ _ _ _ _ came.1 c.in-Ok-answer_lines.ensures.whole)
