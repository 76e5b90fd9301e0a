use Rattle.std.proofs.Common.{Some, None, ◌∙◌}
use Rattle.pram_board.specs.Inner.Plays.{driving}
use Rattle.pram_board.proofs.Storing.{still_stores, stored_as, stored_done, stored_reported}
use Rattle.pram_board.proofs.driver.Driver.stores.Goals as goal

pub report-requires : goal.report-requires
report-requires g c =
    let d = driving c.store_apart-last.new.self in
    let now = c.store_apart-last.new.memory in
    let is = stored_as c.args.leaf c.args.len (driving c.args.self.now) c.args.memory.now
    c.store_apart-last.result (Some c.in-Some.write) d now c.in-Some.is
    c.store_apart-last.ensures.stored in
    record { due = (is.mid, is.between, now, is.swapped) }

pub returns-in-Some-clause-same : goal.returns-in-Some-clause-same
returns-in-Some-clause-same g c = c.report.ensures.same ∙ c.store_apart-last.ensures.same

pub returns-in-Some-clause-leaf : goal.returns-in-Some-clause-leaf
returns-in-Some-clause-leaf g c = c.store_apart-last.ensures.stored.same

pub returns-in-Some-clause-done : goal.returns-in-Some-clause-done
returns-in-Some-clause-done g c =
    let at = c.args.leaf in
    let len = c.args.len in
    let p = driving c.args.self.now in
    let memory = c.args.memory.now in
    let last = c.store_apart-last.result.0 in
    let d = driving c.store_apart-last.new.self in
    let z = driving c.report.new.self in
    let now = c.store_apart-last.new.memory in
    let due = Some c.in-Some.write in
    let is = stored_as at len p memory c.store_apart-last.result due d now c.in-Some.is
    c.store_apart-last.ensures.stored in
    stored_done at len p memory last z now
    (stored_reported at len p memory last due d z now is
    (c.report.ensures.reported is.mid is.between now is.swapped))

pub returns-in-Some-clause-stores : goal.returns-in-Some-clause-stores
returns-in-Some-clause-stores g c =
    let is = c.store_apart-last.ensures.stored in
    still_stores c.store_apart-last.result.0 c.args.len is.mid is.between c.store_apart-last.result.1
    (driving c.store_apart-last.new.self) c.store_apart-last.new.memory is.stores is.swapped

pub returns-in-None-clause-same : goal.returns-in-None-clause-same
returns-in-None-clause-same g c = c.store_apart-last.ensures.same

pub returns-in-None-clause-leaf : goal.returns-in-None-clause-leaf
returns-in-None-clause-leaf g c = c.store_apart-last.ensures.stored.same

pub returns-in-None-clause-done : goal.returns-in-None-clause-done
returns-in-None-clause-done g c =
    let at = c.args.leaf in
    let len = c.args.len in
    let p = driving c.args.self.now in
    let memory = c.args.memory.now in
    let last = c.store_apart-last.result.0 in
    let d = driving c.store_apart-last.new.self in
    let now = c.store_apart-last.new.memory in
    stored_done at len p memory last d now
    (stored_as at len p memory c.store_apart-last.result None d now c.in-None.is
    c.store_apart-last.ensures.stored)

pub returns-in-None-clause-stores : goal.returns-in-None-clause-stores
returns-in-None-clause-stores g c =
    let is = c.store_apart-last.ensures.stored in
    still_stores c.store_apart-last.result.0 c.args.len is.mid is.between c.store_apart-last.result.1
    (driving c.store_apart-last.new.self) c.store_apart-last.new.memory is.stores is.swapped
