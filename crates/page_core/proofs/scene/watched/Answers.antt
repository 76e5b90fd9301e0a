use Rattle.page_core.proofs.Playing.{hindered_text, watched_text}
use Rattle.page_core.proofs.scene.watched.Goals as goal

pub returns-in-Err-watch-clause-hindered : goal.returns-in-Err-watch-clause-hindered
returns-in-Err-watch-clause-hindered c = hindered_text c.args.query.now.text.now
    c.args.query.now.workers c.args.query.now.events.now c.in-Ok.world c.in-Err-watch.hindrance
    c.in-Ok.ensures.opened (λ r is. c.in-Err-watch.ensures.hindered r is)

pub returns-in-Ok-watch-clause-watched : goal.returns-in-Ok-watch-clause-watched
returns-in-Ok-watch-clause-watched c = watched_text c.args.query.now.text.now
    c.args.query.now.workers c.args.query.now.events.now c.args.query.now.from c.watch.new.rows
    c.in-Ok.world c.watch.new.world c.in-Ok.ensures.opened (λ r is. c.in-Ok-watch.ensures.run r is)
    (λ r is. c.in-Ok-watch.ensures.shown r is)
