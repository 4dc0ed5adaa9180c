-- What each instruction does to the registers, or why it traps: one clause for each.
use Rattle.std.specs.Prelude.{ℕ, ◌+◌, ◌%◌, ◌^◌, Bool, true, false, cond, ◌&&◌, Ok, Err, Result, ◌==◌, bit_and, bit_or, bit_xor}
use Rattle.isa.specs.declared.arithmetic.Sum.{Sum}
use Rattle.isa.specs.declared.instruction.Operand.{Operand}
use Rattle.isa.specs.declared.instruction.Operand.TheVariants.{Immediate, Registers as Pair}
use Rattle.isa.specs.declared.instruction.Instruction.{Instruction}
use Rattle.isa.specs.declared.instruction.Instruction.TheVariants.{Brk, Ldil, Addil, Ldo, Add, Adc, Sub, Sbc, And, Or, Xor, Cmp, Cmpu, B, Cbr, Cbru, Diag}
use Rattle.isa.specs.Arithmetic.{one_if, sum_of, difference_of, inverted_if, meets, meets_signed}
use Rattle.registers.specs.declared.registers.Registers.{Registers}
use Rattle.registers.specs.declared.trap.Trap.{Trap}
use Rattle.registers.specs.declared.trap.Trap.TheVariants.{Overflow, Break}
use Rattle.registers.specs.Access.{general, put_general, next, carrying, with_offset, with_halted}

-- the two numbers of the operand form
abbrev pub first : Registers → ℕ → Operand → ℕ
first s r (Immediate v) = general s r
first s r (Pair a b) = general s a

abbrev pub second : Registers → Operand → ℕ
second s (Immediate v) = v
second s (Pair a b) = general s b

-- a number put into a register, and on to the next instruction
abbrev pub put_next : Registers → ℕ → ℕ → Registers
put_next s r v = next (put_general s r v)

-- with L a sum overflows as an unsigned number, without it as a signed one
abbrev pub overflows : Bool → Sum → Bool
overflows true t = t.carry
overflows false t = t.overflow

-- with L the carry stays as it was
abbrev pub carried : Bool → Bool → Registers → Registers
carried true k s = s
carried false k s = carrying s k

abbrev pub summed : Registers → ℕ → Bool → Bool → Sum → Result Registers Trap
summed s r l o t = cond (o && overflows l t) (Err Overflow) (Ok (next (carried l t.carry (put_general s r t.value))))

-- the link is the address of the instruction that follows
abbrev pub linked : Registers → ℕ → ℕ → Registers
linked s r distance = with_offset (put_general s r ((s.offset + 4) % 2 ^ 32)) ((s.offset + distance) % 2 ^ 32)

abbrev pub branched : Registers → Bool → ℕ → Registers
branched s true distance = with_offset s ((s.offset + distance) % 2 ^ 32)
branched s false distance = next s

-- the word 0 passes, and every other break traps
abbrev pub broken : Registers → ℕ → Result Registers Trap
broken s code = cond (code == 0) (Ok (next s)) (Err Break)

abbrev pub finished : Registers → Instruction → Result Registers Trap
finished s (Brk code) = broken s code
finished s (Ldil r v) = Ok (put_next s r v)
finished s (Addil r v) = Ok (put_next s 1 ((general s r + v) % 2 ^ 32))
finished s (Ldo r b o) = Ok (put_next s r ((general s b + o) % 2 ^ 32))
finished s (Add r l o x) = summed s r l o (sum_of (first s r x) (second s x) false)
finished s (Adc r l o x) = summed s r l o (sum_of (first s r x) (second s x) s.status.carry)
finished s (Sub r l o x) = summed s r l o (difference_of (first s r x) (second s x) false)
finished s (Sbc r l o x) = summed s r l o (difference_of (first s r x) (second s x) s.status.carry)
finished s (And r n c x) = Ok (put_next s r (inverted_if n (bit_and (first s r x) (inverted_if c (second s x)))))
finished s (Or r n c x) = Ok (put_next s r (inverted_if n (bit_or (first s r x) (inverted_if c (second s x)))))
finished s (Xor r n c x) = Ok (put_next s r (inverted_if n (bit_xor (first s r x) (inverted_if c (second s x)))))
finished s (Cmp r c x) = Ok (put_next s r (one_if (meets_signed c (first s r x) (second s x))))
finished s (Cmpu r c x) = Ok (put_next s r (one_if (meets c (first s r x) (second s x))))
finished s (B r o) = Ok (linked s r o)
finished s (Cbr c a b o) = Ok (branched s (meets_signed c (general s a) (general s b)) o)
finished s (Cbru c a b o) = Ok (branched s (meets c (general s a) (general s b)) o)
finished s Diag = Ok (next (with_halted s true))

-- the instructions that only the privileged level may use
abbrev pub privileged : Instruction → Bool
privileged (Brk code) = false
privileged (Ldil r v) = false
privileged (Addil r v) = false
privileged (Ldo r b o) = false
privileged (Add r l o x) = false
privileged (Adc r l o x) = false
privileged (Sub r l o x) = false
privileged (Sbc r l o x) = false
privileged (And r n c x) = false
privileged (Or r n c x) = false
privileged (Xor r n c x) = false
privileged (Cmp r c x) = false
privileged (Cmpu r c x) = false
privileged (B r o) = false
privileged (Cbr c a b o) = false
privileged (Cbru c a b o) = false
privileged Diag = true
