-- What values are held under keys: a partial table from keys to values.
use Rattle.std.specs.Prelude.{◌≡◌, Bool, cond, Some, None, Option, ◌≢◌}

abbrev pub Held : Type 0 → Type 0 → Type 0
Held K V = K → Option V

-- u holds no more than t: at each key the same or nothing
abbrev pub Fewer : {K V : Type 0} → Held K V → Held K V → Type 0
Fewer {K} {V} u t = (k : K) (v : V) → u k ≡ Some v → t k ≡ Some v

abbrev pub with_one : {K V : Type 0} → (K → K → Bool) → Held K V → K → V → Held K V
with_one eq t at new k = cond (eq k at) (Some new) (t k)

abbrev pub without_one : {K V : Type 0} → (K → K → Bool) → Held K V → K → Held K V
without_one eq t at k = cond (eq k at) None (t k)

abbrev pub nothing : {K V : Type 0} → Held K V
nothing k = None

-- u holds what t holds under every key but one
abbrev pub SameBut : {K V : Type 0} → K → Held K V → Held K V → Type 0
SameBut {K} but u t = (k : K) → (k ≢ but) → u k ≡ t k

-- u holds what t holds, but under one key and at most one more
pub record LosesOne {K V : Type 0} (but : K) (u t : Held K V) : Type 0 where
  pub lost : K
  pub others : (k : K) → (k ≢ but) → (k ≢ lost) → u k ≡ t k
