use Rattle.std.proofs.Common.{◌≡◌, ◌+◌, ℕ, length, List, refl, sym, ap, ◌∙◌, arith}
use Rattle.std.specs.Prelude.{slice_index, unwrap_or}
use Rattle.pram_job.specs.declared.instr.Instr.{Instr}
use Rattle.pram_job.specs.declared.instr.Instr.TheVariants.{Set, Pid, Jz, Jmp, Halt}
use Rattle.pram_job.specs.declared.instr.Operands.TheVariants.{TargetTwo}
use Rattle.pram_job.specs.Instructions.{row_of}
use Rattle.pram_machine.specs.Instructions.{computed, goes_to}
use Rattle.walk_memory.specs.declared.as_one.Together.{Together}
use Rattle.walk_memory.specs.Lanes.{entries}
use Rattle.walk_memory.specs.Rows.{held_in, own_of}
use Rattle.walk_memory.proofs.InLanes.{all_give, all_jump, all_store, asks_by, asks_computed}
use Rattle.walk_memory.proofs.InLanes.{asks_halt, asks_jmp, asks_jz, asks_pid, asks_set, unwritten}
use Rattle.walk_memory.proofs.rows.go_by.Goals as goal

pub returns-in-Set-clause-all : goal.returns-in-Set-clause-all
returns-in-Set-clause-all c =
    let block = c.args.block.now in
    let next = c.next_at.ensures in
    all_give c.args.job.now c.args.lanes c.args.instr.now c.args.at c.next_at.result block _
    (ap (λ (t : Together). t.step) next) (ap (λ (t : Together). t.settled) next) c.in-Set.r (λ k. c.in-Set.number)
    (ap (λ (t : Together). t.counter) next) (ap (λ (t : Together). t.stored) next)
    c.put_number.ensures (unwritten block c.put_number.new.registers _) refl refl
    (λ k from to. asks_by c.args.job.now (c.args.lanes.first + k) (own_of c.args.at.counter block k)
    c.args.instr.now (Set c.in-Set.r c.in-Set.number) _ c.in-Set.is
    (asks_set c.args.job.now (c.args.lanes.first + k) (own_of c.args.at.counter block k) c.in-Set.r
    c.in-Set.number))

pub returns-in-Pid-clause-all : goal.returns-in-Pid-clause-all
returns-in-Pid-clause-all c =
    let block = c.args.block.now in
    let next = c.next_at-in-Pid.ensures in
    all_give c.args.job.now c.args.lanes c.args.instr.now c.args.at c.next_at-in-Pid.result block _
    (ap (λ (t : Together). t.step) next) (ap (λ (t : Together). t.settled) next) c.in-Pid.r (λ k. c.args.lanes.first + k)
    (ap (λ (t : Together). t.counter) next) (ap (λ (t : Together). t.stored) next)
    c.put_processor.ensures (unwritten block c.put_processor.new.registers _) refl refl
    (λ k from to. asks_by c.args.job.now (c.args.lanes.first + k) (own_of c.args.at.counter block k)
    c.args.instr.now (Pid c.in-Pid.r) _ c.in-Pid.is
    (asks_pid c.args.job.now (c.args.lanes.first + k) (own_of c.args.at.counter block k) c.in-Pid.r))

pub returns-else-not-put_computed-clause-all : goal.returns-else-not-put_computed-clause-all
returns-else-not-put_computed-clause-all c =
    let block = c.args.block.now in
    let next = c.next_at-in-Add.ensures in
    let two : (row_of c.args.instr.now).1 ≡ TargetTwo c.in-Add.r c.in-Add.a c.in-Add.b =
    grind (arith, c.in-Add.is) in
    all_give c.args.job.now c.args.lanes c.args.instr.now c.args.at c.next_at-in-Add.result block _
    (ap (λ (t : Together). t.step) next) (ap (λ (t : Together). t.settled) next) c.in-Add.r
    (λ k. unwrap_or (computed c.args.instr.now (slice_index (entries block.registers k) c.in-Add.a)
    (held_in c.in-Add.b (entries block.registers k))) 0)
    (ap (λ (t : Together). t.counter) next) (ap (λ (t : Together). t.stored) next)
    (c.put_computed.ensures.puts c.if-not-put_computed.false)
    (unwritten block c.put_computed.new.registers _) refl refl
    (λ k from to. asks_computed c.args.job.now (c.args.lanes.first + k)
    (own_of c.args.at.counter block k) c.args.instr.now c.in-Add.r c.in-Add.a c.in-Add.b two
    (c.put_computed.ensures.some c.if-not-put_computed.false k from to))

pub returns-else-not-store_all-clause-all : goal.returns-else-not-store_all-clause-all
returns-else-not-store_all-clause-all c =
    let next = c.next_at-in-St.ensures in
    all_store c.args.job.now c.args.lanes c.args.instr.now c.args.at c.next_at-in-St.result
    c.args.block.now c.store_all.new.block (ap (λ (t : Together). t.step) next) (ap (λ (t : Together). t.settled) next) c.in-St.place c.in-St.b
    c.in-St.is (ap (λ (t : Together). t.counter) next) (ap (λ (t : Together). t.stored) next)
    (c.store_all.ensures.all c.if-not-store_all.false)

pub returns-in_ok-to-in-Jz-clause-all : goal.returns-in_ok-to-in-Jz-clause-all
returns-in_ok-to-in-Jz-clause-all c =
    let block = c.args.block.now in
    let next = c.next_at-in-Jz.ensures in
    all_jump c.args.job.now c.args.lanes c.args.instr.now c.args.at c.next_at-in-Jz.result block block
    (ap (λ (t : Together). t.step) next) (ap (λ (t : Together). t.settled) next) (ap (λ (t : Together). t.stored) next) refl
    (λ k from to. asks_by c.args.job.now (c.args.lanes.first + k) (own_of c.args.at.counter block k)
    c.args.instr.now (Jz c.in-Jz.r c.in-Jz.index) _ c.in-Jz.is
    (asks_jz c.args.job.now (c.args.lanes.first + k) (own_of c.args.at.counter block k) c.in-Jz.r
    c.in-Jz.index ∙ ap (λ (n : ℕ). goes_to n) (sym (c.in_ok-to-in-Jz.ensures k from to)
    ∙ sym (ap (λ (t : Together). t.counter) next))))

pub returns-in-Jmp-clause-all : goal.returns-in-Jmp-clause-all
returns-in-Jmp-clause-all c =
    let block = c.args.block.now in
    let next = c.next_at-in-Jmp.ensures in
    all_jump c.args.job.now c.args.lanes c.args.instr.now c.args.at c.next_at-in-Jmp.result block block
    (ap (λ (t : Together). t.step) next) (ap (λ (t : Together). t.settled) next) (ap (λ (t : Together). t.stored) next) refl
    (λ k from to. asks_by c.args.job.now (c.args.lanes.first + k) (own_of c.args.at.counter block k)
    c.args.instr.now (Jmp c.in-Jmp.index) _ c.in-Jmp.is
    (asks_jmp c.args.job.now (c.args.lanes.first + k) (own_of c.args.at.counter block k) c.in-Jmp.index
    ∙ ap (λ (n : ℕ). goes_to n) (sym (ap (λ (t : Together). t.counter) next))))

pub returns-in-Halt-clause-all : goal.returns-in-Halt-clause-all
returns-in-Halt-clause-all c =
    let block = c.args.block.now in
    let next = c.next_at-in-Halt.ensures in
    all_jump c.args.job.now c.args.lanes c.args.instr.now c.args.at c.next_at-in-Halt.result block block
    (ap (λ (t : Together). t.step) next) (ap (λ (t : Together). t.settled) next) (ap (λ (t : Together). t.stored) next) refl
    (λ k from to. asks_by c.args.job.now (c.args.lanes.first + k) (own_of c.args.at.counter block k)
    c.args.instr.now Halt _ c.in-Halt.is
    (asks_halt c.args.job.now (c.args.lanes.first + k) (own_of c.args.at.counter block k)
    ∙ ap (λ (n : ℕ). goes_to n) (ap (λ (code : List Instr). length code) (sym c.code.ensures.value)
    ∙ sym (ap (λ (t : Together). t.counter) next))))
