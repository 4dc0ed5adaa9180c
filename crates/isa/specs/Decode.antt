-- What an instruction word says: one clause for each instruction. A word that is no instruction says nothing.
use Rattle.std.specs.Prelude.{ℕ, ◌*◌, ◌%◌, ◌^◌, Bool, cond, not, ◌&&◌, Some, None, Option, ◌==◌}
use Rattle.isa.specs.declared.instruction.Operand.{Operand}
use Rattle.isa.specs.declared.instruction.Operand.TheVariants.{Immediate, Registers}
use Rattle.isa.specs.declared.instruction.Instruction.{Instruction}
use Rattle.isa.specs.declared.instruction.Instruction.TheVariants.{Brk, Ldil, Addil, Ldo, Add, Adc, Sub, Sbc, And, Or, Xor, Cmp, Cmpu, B, Cbr, Cbru, Diag}
use Rattle.isa.specs.Fields.{bits, bit, signed_bits, number, field_r, field_a, field_b, condition}

-- the operand form by its mode: 0 immediate, 1 two registers; a bit that has no name must be zero
abbrev pub operand : ℕ → Option Operand
operand w =
    cond (bits 12 13 w == 0) (Some (Immediate (signed_bits 14 31 w)))
    (cond (bits 12 13 w == 1 && bits 14 23 w == 0) (Some (Registers (field_a w) (field_b w))) None)

-- four times a distance, modulo 2 ^ 32
abbrev pub words : ℕ → ℕ
words distance = distance * 4 % 2 ^ 32

abbrev pub only_if : Bool → Instruction → Option Instruction
only_if b i = cond b (Some i) None

-- the instructions that work on an operand; N and C together are forbidden
abbrev pub on_operand : ℕ → Option Operand → Option Instruction
on_operand w None = None
on_operand w (Some x) =
    cond (number w == 16) (Some (Add (field_r w) (bit 10 w) (bit 11 w) x))
    (cond (number w == 17) (Some (Adc (field_r w) (bit 10 w) (bit 11 w) x))
    (cond (number w == 18) (Some (Sub (field_r w) (bit 10 w) (bit 11 w) x))
    (cond (number w == 19) (Some (Sbc (field_r w) (bit 10 w) (bit 11 w) x))
    (cond (number w == 20) (only_if (not (bit 10 w && bit 11 w)) (And (field_r w) (bit 10 w) (bit 11 w) x))
    (cond (number w == 21) (only_if (not (bit 10 w && bit 11 w)) (Or (field_r w) (bit 10 w) (bit 11 w) x))
    (cond (number w == 22) (only_if (not (bit 10 w && bit 11 w)) (Xor (field_r w) (bit 10 w) (bit 11 w) x))
    (cond (number w == 23) (Some (Cmp (field_r w) (condition (bits 10 11 w)) x))
    (cond (number w == 24) (Some (Cmpu (field_r w) (condition (bits 10 11 w)) x))
    None))))))))

-- the numbers below 32 compute
abbrev pub computing : ℕ → Option Instruction
computing w =
    cond (number w == 0) (Some (Brk (bits 6 31 w)))
    (cond (number w == 1) (Some (Ldil (field_r w) (bits 10 31 w * 1024)))
    (cond (number w == 2) (Some (Addil (field_r w) (bits 10 31 w * 1024)))
    (cond (number w == 3) (Some (Ldo (field_r w) (field_b w) (signed_bits 10 27 w)))
    (on_operand w (operand w)))))

-- the others branch, or control the machine
abbrev pub branching : ℕ → Option Instruction
branching w =
    cond (number w == 32) (Some (B (field_r w) (words (signed_bits 10 31 w))))
    (cond (number w == 37) (Some (Cbr (condition (bits 6 7 w)) (field_a w) (field_b w) (words (signed_bits 8 23 w))))
    (cond (number w == 38) (Some (Cbru (condition (bits 6 7 w)) (field_a w) (field_b w) (words (signed_bits 8 23 w))))
    (cond (number w == 63) (only_if (bits 6 31 w == 0) Diag)
    None)))

unfoldable pub decoded : ℕ → Option Instruction
decoded w = cond (bit 0 w) (branching w) (computing w)
