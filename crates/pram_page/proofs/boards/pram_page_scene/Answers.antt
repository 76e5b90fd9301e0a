use Rattle.std.proofs.Common.{rules, ◌≡◌, length, inr, subst, sym, ◌∙◌}
use Rattle.page_core.specs.Scenes.{IsBoardTold, IsScene, count_shown}
use Rattle.page_core.proofs.Playing.{board_watched, memory_out, scene_watched}
use Rattle.page_core.proofs.ReadCells.{reads_found}
use Rattle.pram_page.proofs.boards.pram_page_scene.Goals as goal
use Rattle.pram_page.proofs.boards.pram_page_scene.Goals.{in-Ok-tell_board, in-Err-tell_board}

pub returns-after-tell_board-clause-scene : goal.returns-after-tell_board-clause-scene
returns-after-tell_board-clause-scene c =
    let text = c.args.text.now in
    let workers = c.args.workers in
    let events = c.args.events.now in
    let rows = c.watched.new.rows in
    let words = c.tell_board.new.words in
    let bodies = c.tell_board.new.bodies in
    let shown : c.shown-count.result ≡ count_shown (length events) c.args.from (length rows) =
    search rules in
    elim c.match-tell_board.branch [
      | in-Ok-tell_board w ↦
          let scene = w.in-Ok-tell_board.scene in
          let told = w.in-Ok-tell_board.ensures.told in
          subst (IsScene text workers events c.args.from rows words bodies) (sym w.told-is)
          (scene_watched text workers events c.args.from rows words bodies scene c.in-Ok.world
          c.in-Ok.ensures.watched
          (subst (λ n. IsBoardTold c.in-Ok.world n words bodies scene) shown told))
      | in-Err-tell_board w ↦
          let hindrance = w.in-Err-tell_board.hindrance in
          inr (
            hindrance,
            memory_out text workers events hindrance w.in-Err-tell_board.ensures.memory,
            w.told-is ∙ w.hindered-in-Err-tell_board.ensures,
          )
    ]

pub returns-after-tell_board-clause-read : goal.returns-after-tell_board-clause-read
returns-after-tell_board-clause-read c =
    let text = c.args.text.now in
    let events = c.args.events.now in (
      c.reads.result,
      reads_found text c.args.workers events c.in-Ok.world c.args.cells.now c.reads.new.cells
          c.reads.result (board_watched text c.args.workers events c.args.from c.watched.new.rows
          c.in-Ok.world c.in-Ok.ensures.watched) c.reads.ensures.read,
      c.tell-in-Ok.ensures,
    )
