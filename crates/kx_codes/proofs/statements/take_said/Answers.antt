use Rattle.std.proofs.Common.{◌≡◌, ◌∷◌, [], ℕ, Contains, arith, inl, inr, refl, sym, subst}
use Rattle.kx_include.specs.IncludeFaults.{at}
use Rattle.kx_lex.specs.declared.fault.Fault.TheVariants.{Memory, UnknownField}
use Rattle.kx_lex.specs.declared.token.Span.{Span}
use Rattle.kx_tree.specs.declared.tree.Statement.{Statement}
use Rattle.kx_codes.specs.CodeFaults.{said_faults}
use Rattle.kx_codes.specs.Numbers.{StandsIn}
use Rattle.kx_codes.specs.Pairs.{Pair, said_pairs, taken}
use Rattle.kx_codes.proofs.Behind.{on_ok}
use Rattle.kx_codes.proofs.Numbering.{took_one}
use Rattle.kx_codes.proofs.statements.take_said.Goals as goal

pub returns-in_ok-number-in-Keycode-clause-took : goal.returns-in_ok-number-in-Keycode-clause-took
returns-in_ok-number-in-Keycode-clause-took c = on_ok c.take.result (λ takes ps s.
    subst (λ said. StandsIn c.number.new.self c.take.new.self (said_pairs c.args.stated.now.mode said ps)) (sym c.in-Keycode.is)
    (subst (λ (p : Pair). StandsIn c.number.new.self c.take.new.self (taken c.args.stated.now.mode ps p)) (λ i. record { name = c.in_ok-name-in-Keycode.ensures.value i; code = c.in_ok-code-in-Keycode.ensures.value i })
    (took_one c.args.names.now c.number.new.self c.in_ok-number-in-Keycode.ensures.grows c.args.stated.now.mode c.in_ok-number-in-Keycode.number c.in_ok-code-in-Keycode.code c.in_ok-name-in-Keycode.name.now c.in_ok-number-in-Keycode.ensures.name c.args.pairs.now c.take.new.self takes ps s)))
    c.take.ensures.took

-- a statement of no kind that a keycodes section has
unknown : (file : ℕ) (first whole : Span) (s said : Statement) → s ≡ said → said_faults file said first whole ≡ UnknownField (at file first) ∷ [] → Contains (Memory ∷ said_faults file s first whole) (UnknownField (at file first))
unknown file first whole s said is one =
    subst (λ (x : Statement). Contains (Memory ∷ said_faults file x first whole) (UnknownField (at file first))) (sym is)
    (subst (λ fs. Contains (Memory ∷ fs) (UnknownField (at file first))) (sym one) (1, omega arith, refl))

pub returns-in-VirtualModifiers-clause-faults : goal.returns-in-VirtualModifiers-clause-faults
returns-in-VirtualModifiers-clause-faults c =
    let s = c.args.stated.now in (
      tt,
      elim c.in-VirtualModifiers.is [
        | inl h ↦ unknown c.args.file s.first s.span s.statement _ h.1 refl
        | inr (inl h) ↦ unknown c.args.file s.first s.span s.statement _ h.2 refl
        | inr (inr (inl h)) ↦ unknown c.args.file s.first s.span s.statement _ h.3 refl
        | inr (inr (inr (inl h))) ↦ unknown c.args.file s.first s.span s.statement _ h.2 refl
        | inr (inr (inr (inr (inl h)))) ↦ unknown c.args.file s.first s.span s.statement _ h.2 refl
        | inr (inr (inr (inr (inr (inl h))))) ↦ unknown c.args.file s.first s.span s.statement _ h.2 refl
        | inr (inr (inr (inr (inr (inr h))))) ↦ unknown c.args.file s.first s.span s.statement _ h.2 refl
      ],
    )
