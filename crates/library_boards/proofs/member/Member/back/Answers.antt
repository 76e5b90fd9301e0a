use Rattle.std.proofs.lemmas.Option.{same_Some}
use Rattle.std.proofs.Common.{length, refl, subst}
use Rattle.walkx.specs.Serving.{IsNewWorker}
use Rattle.walkx.specs.Walk.{come_back, remembering}
use Rattle.pram_board.specs.Worked.{Works}
use Rattle.library_boards.specs.Members.{board_at}
use Rattle.library_boards.proofs.member.Member.back.Goals as goal

pub returns-in-Some : goal.returns-in-Some
returns-in-Some c =
    let old = c.args.self.now in
    let worker = c.in-Some.worker in
    let was = c.requires.works worker c.in-Some.is in
    let size = length c.worker_memory-memory.result in
    let back : IsNewWorker worker.walking.number
    (remembering size (come_back worker.walking.number)) c.back_with.result =
    subst (λ n. IsNewWorker n (remembering size (come_back n)) c.back_with.result)
    c.number.ensures c.back_with.ensures in
    let now : Works (board_at old) old.seat c.back_with.result = record {
      desk = was.desk;
      serves = back.serves (board_at old).task.job (board_at old).task.layout
          was.serves.fits.number;
      knows = back.known (board_at old).task.job (board_at old).task.layout old.seat.record_of
          was.serves.fits.number;
    } in record {
      worker = worker;
      was = c.in-Some.is;
      now = c.back_with.result;
      is = refl;
      memory = size;
      back = back;
      seat = refl;
      same = refl;
      is_member = record {
        desk = was.desk;
        works = λ other e. subst (Works (board_at old) old.seat) (same_Some _ _ e) now;
      };
    }
