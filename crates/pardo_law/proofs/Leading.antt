-- Code that leads on: none of it goes back or halts, so nobody is twice at one instruction.
use Rattle.std.proofs.Common.{◌≡◌, ℕ, zero, suc, ◌+◌, ◌*◌, ◌<◌, ◌≤◌, ◌⊎◌, ◌==◌, Bool, true, false}
use Rattle.std.proofs.Common.{List, [], ◌∷◌, ◌++◌, Option, Some, None, length, if◌then◌else◌}
use Rattle.std.proofs.Common.{refl, sym, ap, ◌∙◌, subst, inl, inr, ⊎_elim, arith}
use Rattle.std.specs.Prelude.{slice_get}
use Rattle.std.proofs.lemmas.Bool.{cases_eq}
use Rattle.pram_job.specs.declared.instr.Instr.{Instr}
use Rattle.pram_job.specs.declared.instr.Instr.TheVariants.{Ld, St, Jz, Jmp, Halt}
use Rattle.pram_job.specs.declared.instr.Operands.{Operands}
use Rattle.pram_job.specs.declared.instr.Operands.TheVariants.{Bare, TargetPlace, PlaceValue}
use Rattle.pram_job.specs.declared.instr.Operands.TheVariants.{RegisterIndex, Index}
use Rattle.pram_job.specs.declared.instr.Place.TheVariants.{Cell, Named}
use Rattle.pram_job.specs.Instructions.{row_of}
use Rattle.pram_job.specs.Job.{JobData, IsJob}
use Rattle.pram_machine.specs.Machine.{IsStopped, counter, out_of_range}
use Rattle.pram_step.specs.Runs.{state_after}
use Rattle.pram_step.proofs.LawCounters.{stopped_processor}
use Rattle.pram_step.proofs.LawFixed.{length-state_after}
use Rattle.pardo_program.specs.declared.statement.Statement.{Statement}
use Rattle.pardo_program.specs.declared.statement.Statement.TheVariants.{Assign, If, Else, EndIf}
use Rattle.pardo_program.specs.declared.statement.Statement.TheVariants.{While, EndWhile, For}
use Rattle.pardo_program.specs.declared.statement.Statement.TheVariants.{EndFor}
use Rattle.pardo_program.specs.declared.statement.Target.TheVariants.{Private, Array as Shared}
use Rattle.pardo_program.specs.Program.{ProgramData}
use Rattle.pardo_flat.specs.Layouts.{ProgramLayoutData, program_layout, mask_cells}
use Rattle.pardo_job.specs.Lines.{no_code, masked, choosing, own_store, line_code, assignment_code}
use Rattle.pardo_job.specs.Lines.{condition_code}
use Rattle.pardo_job.specs.Straight.{Registers}
use Rattle.pardo_job.specs.Times.{is_counted}
use Rattle.pardo_job.specs.Values.{takes, value_code}
use Rattle.pardo_law.specs.Locals.{Local, standing_at, after_instr, after_fetched}
use Rattle.pardo_law.specs.Locals.{HasCodeAt, AreStraight, IsStraight, NamesByArray, IsLocal}
use Rattle.pardo_law.specs.Locals.{memory_of, registers_of}
use Rattle.pardo_law.proofs.Bodies.{between, under}
use Rattle.pardo_law.proofs.Lengths.{length-idle}
use Rattle.pardo_law.proofs.Placing.{straight_instr}
use Rattle.pardo_law.proofs.Stepping.{each_by_itself}
use Rattle.pardo_law.proofs.Straightness.{condition_straight, value_straight}

-- an instruction with these operands goes on from a place, and names cells by arrays alone
abbrev LeadsFrom : ℕ → Operands → Type 0
LeadsFrom at Bare = ⊥
LeadsFrom at (TargetPlace target (Cell index)) = ⊥
LeadsFrom at (PlaceValue (Cell index) value) = ⊥
LeadsFrom at (RegisterIndex register index) = at < index
LeadsFrom at (Index index) = at < index
LeadsFrom at operands = Unit {0}

abbrev pub Leads : ℕ → Instr → Type 0
Leads at one = LeadsFrom at (row_of one).1

abbrev pub AreLeading : ℕ → List Instr → Type 0
AreLeading at [] = Unit {0}
AreLeading at (one ∷ code) = Leads at one × AreLeading (at + 1) code

leading_append : (at : ℕ) (front back : List Instr) → AreLeading at front →
    AreLeading (at + length front) back → AreLeading at (front ++ back)
leading_append at [] back a b =
    let e : at + 0 ≡ at = omega arith in subst (λ n. AreLeading n back) e b
leading_append at (one ∷ front) back a b =
    let e : at + suc (length front) ≡ at + 1 + length front = omega arith in
    (a.0, leading_append (at + 1) front back a.1 (subst (λ n. AreLeading n back) e b))

straight_one : (at : ℕ) (one : Instr) → IsStraight one → Leads at one
straight_one at (Ld target (Named array index)) is = tt
straight_one at (Ld target (Cell index)) is = absurd is
straight_one at (St place value) is = absurd is
straight_one at (Jz register index) is = absurd is
straight_one at (Jmp index) is = absurd is
straight_one at Halt is = absurd is
straight_one at _ is = tt

straight_leading : (at : ℕ) (code : List Instr) → AreStraight code → AreLeading at code
straight_leading at [] is = tt
straight_leading at (one ∷ code) is =
    (straight_one at one is.0, straight_leading (at + 1) code is.1)

idle_leading : (at count : ℕ) → AreLeading at (no_code at count)
idle_leading at zero = tt
idle_leading at (suc count) = (omega arith, idle_leading (at + 1) count)

-- ---- one instruction

abbrev IsBeyond : ℕ → Local → Type 0
IsBeyond at None = Unit {0}
IsBeyond at (Some local) = at < local.0

beyond_if : (at other : ℕ) (held : Registers) (t : Bool) → at < other →
    IsBeyond at (Some (if t then other else at + 1, held))
beyond_if at other held true lt = lt
beyond_if at other held false lt = omega arith

beyond_store : (at : ℕ) (held : Registers) (t : Bool) →
    IsBeyond at (if t then Some (at + 1, held) else None)
beyond_store at held true = omega arith
beyond_store at held false = tt

beyond_straight : (at : ℕ) (o : Option Registers) → IsBeyond at (standing_at (at + 1) o)
beyond_straight at None = tt
beyond_straight at (Some held) = omega arith

module _ (job : JobData) (memory : ℕ → ℕ) (i at : ℕ) (held : Registers) where
  goes_straight : (one : Instr) → IsStraight one →
      IsBeyond at (after_instr job memory i at held one)
  goes_straight one is = subst (IsBeyond at) (sym (straight_instr job memory i at held one is))
      (beyond_straight at _)

  leads_on : (one : Instr) → Leads at one → IsBeyond at (after_instr job memory i at held one)
  leads_on (Ld target (Named array index)) leads = goes_straight (Ld target (Named array index)) tt
  leads_on (Ld target (Cell index)) leads = absurd leads
  leads_on (St (Named array index) value) leads = beyond_store at held _
  leads_on (St (Cell index) value) leads = absurd leads
  leads_on (Jz register index) leads = beyond_if at index held _ leads
  leads_on (Jmp index) leads = leads
  leads_on Halt leads = absurd leads
  leads_on one leads = goes_straight one tt

leads_named : (at : ℕ) (one : Instr) → Leads at one → NamesByArray one
leads_named at (Ld target (Named array index)) leads = tt
leads_named at (Ld target (Cell index)) leads = absurd leads
leads_named at (St (Named array index) value) leads = tt
leads_named at (St (Cell index) value) leads = absurd leads
leads_named at Halt leads = absurd leads
leads_named at _ leads = tt

same_instr : (a b : Instr) → Some a ≡ Some b → a ≡ b
same_instr a b e = cc

module _ (job : JobData) (is_job : IsJob job) (t i : ℕ) (lt : i < job.procs) where
  -- one that is out of range stays so
  pub stays_out : counter job (state_after job t) i ≡ out_of_range job →
      counter job (state_after job (suc t)) i ≡ out_of_range job
  stays_out out =
      let past : IsStopped job (state_after job t) i = omega (arith, out) in
      let e : t + 1 ≡ suc t = omega arith in
      subst (λ (n : ℕ). counter job (state_after job n) i ≡ out_of_range job) e
      ((stopped_processor job t 1 i is_job lt past).0 ∙ out)

  -- where a processor goes that stands at such an instruction
  pub next_is : (at : ℕ) (held : Registers) (one : Instr) → slice_get job.code at ≡ Some one →
      NamesByArray one → IsLocal job (state_after job t) i (Some (at, held)) →
      IsLocal job (state_after job (suc t)) i
      (after_instr job (memory_of job (state_after job t)) i at held one)
  unfolding state_after
  next_is at held one stands named local =
      subst (IsLocal job (state_after job (suc t)) i)
      (ap (after_fetched job (memory_of job (state_after job t)) i at held) stands)
      (each_by_itself job (state_after job t) i (Some (at, held)) is_job
      (length-state_after job t is_job) lt local
      (λ instr is. subst NamesByArray (same_instr one instr (sym stands ∙ is)) named)).local_is

  by_local : (at : ℕ) (l : Local) → IsBeyond at l → IsLocal job (state_after job (suc t)) i l →
      (counter job (state_after job (suc t)) i ≡ out_of_range job)
      ⊎ (at < counter job (state_after job (suc t)) i)
  by_local at None beyond local = inl local
  by_local at (Some l) beyond local = inr (let e = local.0 in omega arith)

  pub goes_on : (at : ℕ) (one : Instr) → counter job (state_after job t) i ≡ at →
      slice_get job.code at ≡ Some one → Leads at one →
      (counter job (state_after job (suc t)) i ≡ out_of_range job)
      ⊎ (at < counter job (state_after job (suc t)) i)
  goes_on at one here stands leads =
      by_local at _
      (leads_on job (memory_of job (state_after job t)) i at
      (registers_of job (state_after job t) i) one leads)
      (next_is at (registers_of job (state_after job t) i) one stands (leads_named at one leads)
      (here, refl))

-- the instruction at a place of such code
pub record LeadingAt (job : JobData) (at : ℕ) : Type 0 where
  pub one : Instr
  pub is_there : slice_get job.code at ≡ Some one
  pub leads : Leads at one

pub leading_at : (job : JobData) (lo at : ℕ) (code : List Instr) → HasCodeAt job lo code →
    AreLeading lo code → lo ≤ at → at < lo + length code → LeadingAt job at
leading_at job lo at [] stands leads low high = absurd (omega arith)
leading_at job lo at (one ∷ code) stands leads low high = ⊎_elim
    (λ (same : lo ≡ at). subst (LeadingAt job) same
    (record { one = one; is_there = stands.0; leads = leads.0 }))
    (λ apart. leading_at job (lo + 1) at code stands.1 leads.1 (omega arith) (omega arith))
    (cases_eq lo at)

-- ---- the code of counted lines

module _ (layout : ProgramLayoutData) (at depth : ℕ) (body : List Instr)
    (leads : (place : ℕ) → AreLeading place body) where
  under_leads : AreLeading at (under layout at depth body)
  under_leads =
      let e : at + 3 ≡ at + 1 + 1 + 1 = omega arith in
      let long = length-idle (at + 3) (length body) in (
        tt,
        (
          omega arith,
          (
            omega arith,
            subst (λ n. AreLeading n
                (no_code (at + 3) (length body) ++ Jmp (at + 4 + 2 * length body) ∷ body)) e
                (leading_append (at + 3) (no_code (at + 3) (length body))
                (Jmp (at + 4 + 2 * length body) ∷ body) (idle_leading (at + 3) (length body))
                (omega arith, leads _)),
          ),
        ),
      )

  between_leads : AreLeading at (between layout at depth body)
  between_leads =
      let e : at + 3 + length body ≡ at + 1 + 1 + length body + 1 = omega arith in (
        tt,
        (
          omega arith,
          leading_append (at + 1 + 1) body
              (Jmp (at + 4 + 2 * length body) ∷ no_code (at + 3 + length body) (length body + 1))
              (leads (at + 1 + 1)) (
                omega arith,
                subst (λ n. AreLeading n
                    (no_code (at + 3 + length body) (length body + 1))) e
                    (idle_leading (at + 3 + length body) (length body + 1)),
              ),
        ),
      )

  masked_leads : AreLeading at (masked layout at depth body)
  unfolding masked
  masked_leads = by_depth (depth == 0)
    where
      by_depth : (t : Bool) → AreLeading at (if t then body else under layout at depth body)
      by_depth true = leads at
      by_depth false = under_leads

  choosing_leads : AreLeading at (choosing layout at depth body)
  unfolding choosing
  choosing_leads = leading_append at (if depth == 0 then body else between layout at depth body)
      (own_store (mask_cells layout (depth + 1)) ∷ []) (by_depth (depth == 0)) (tt, tt)
    where
      by_depth : (t : Bool) → AreLeading at (if t then body else between layout at depth body)
      by_depth true = leads at
      by_depth false = between_leads

pub counted_leads : (program : ProgramData) (place_of : ℕ → ℕ) (at depth : ℕ)
    (statement : Statement) → is_counted statement ≡ true →
    AreLeading at (line_code program place_of at depth statement)
unfolding line_code assignment_code
counted_leads program place_of at depth (Assign (Private x) tree) counted =
    masked_leads (program_layout program) at depth _
    (λ place. leading_append place (value_code (program_layout program) 0 tree) _
    (straight_leading place _ (value_straight (program_layout program) 0 tree)) (tt, tt))
counted_leads program place_of at depth (Assign (Shared array index) tree) counted =
    masked_leads (program_layout program) at depth _
    (λ place. leading_append place (value_code (program_layout program) 0 tree) _
    (straight_leading place _ (value_straight (program_layout program) 0 tree))
    (leading_append _ (value_code (program_layout program) (takes tree) index) _
    (straight_leading _ _ (value_straight (program_layout program) (takes tree) index)) (tt, tt)))
counted_leads program place_of at depth (If tree) counted =
    choosing_leads (program_layout program) at depth _
    (λ place. straight_leading place (condition_code (program_layout program) tree)
    (condition_straight (program_layout program) tree))
counted_leads program place_of at depth Else counted = absurd (let e : false ≡ true = counted in cc)
counted_leads program place_of at depth EndIf counted =
    absurd (let e : false ≡ true = counted in cc)
counted_leads program place_of at depth (While tree end) counted =
    absurd (let e : false ≡ true = counted in cc)
counted_leads program place_of at depth (EndWhile begin) counted =
    absurd (let e : false ≡ true = counted in cc)
counted_leads program place_of at depth (For nest first last up end) counted =
    absurd (let e : false ≡ true = counted in cc)
counted_leads program place_of at depth (EndFor begin) counted =
    absurd (let e : false ≡ true = counted in cc)
