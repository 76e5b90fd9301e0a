use Rattle.std.proofs.lemmas.Option.{same_Some}
use Rattle.std.proofs.Common.{◌≡◌, ◌<◌, length, arith, refl, rules, subst, sym}
use Rattle.std.specs.Arc.{arc_value}
use Rattle.pram_board.specs.Worked.{Works}
use Rattle.library_boards.specs.declared.shared.Shared.{Shared}
use Rattle.library_boards.specs.Members.{shared_at}
use Rattle.library_boards.proofs.member.Member.worker.Goals as goal

pub returns : goal.returns
returns c =
    let shared : Shared = shared_at c.args.self.now in
    let same : arc_value c.in_ok-try_clone.field-0 ≡ shared = search rules in
    let seat = c.new_seat-seat.result in
    let desk : seat.desk ≡ shared.board = search rules in
    let below : c.args.number < shared.board.task.layout.workers =
    omega (arith, shared.workers_are, c.requires) in
    let works : Works shared.board seat c.start_with.result = record {
      desk = desk;
      serves = c.start_with.ensures.serves shared.board.task.job shared.board.task.layout below;
      knows = c.start_with.ensures.known shared.board.task.job shared.board.task.layout seat.record_of
          below;
    } in
    let now : Works (arc_value c.in_ok-try_clone.field-0).board seat c.start_with.result =
    subst (λ (s : Shared). Works s.board seat c.start_with.result) (sym same) works in record {
      new = record {
        same = same;
        seen = search rules;
        is_member = record {
          desk = now.desk;
          works = λ worker e. subst (Works (arc_value c.in_ok-try_clone.field-0).board seat)
              (same_Some _ _ e) now;
        };
      };
      worker = c.start_with.result;
      is = refl;
      memory = length c.worker_memory-memory.result;
      starts = c.start_with.ensures;
    }
