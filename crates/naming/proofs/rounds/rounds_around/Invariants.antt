use Rattle.std.proofs.Common.{◌≡◌, ◌-◌, ◌++◌}
use Rattle.std.specs.Prelude.{slice_get, string_bytes}
use Rattle.std.specs.List.{flat_map, range_with_len}
use Rattle.naming.specs.Rounds.{round_of, rounds_around, variable_value}
use Rattle.naming.proofs.rounds.rounds_around.Given as goal

-- the rounds so far and those to come are all rounds
abbrev pub invariant-loop-begin : goal.invariant-loop-begin
invariant-loop-begin l =
    let value_of = variable_value l.view.program.now l.view.state.now l.view.processor in
    string_bytes l.rounds
    ++ flat_map (λ begin. round_of value_of l.view.step l.at
    (slice_get l.view.program.now.lines begin)) (range_with_len l.begin (l.at - l.begin))
    ≡ rounds_around value_of l.view.program.now l.view.step l.at
