-- What a block is made of, when its form takes it, and what it means that a block fixes the PIN.
use Rattle.pad_steps.specs.declared.commands.Form.{Form}
use Rattle.pad_words.specs.Bytes.{packed}
use Rattle.pin_blocks.specs.BlockWork.{fill_count}
use Rattle.pin_blocks.specs.Blocks.{block_nibbles}
use Rattle.pin_blocks.specs.Faults.{block_fault}
use Rattle.std.specs.Prelude.{All, List, None, length, ℕ, ◌<◌, ◌≡◌, ◌≤◌}

-- what a block is made of: the digits of the PIN, the customer data, the padding nibble, and the fill words
pub record BlockParts : Type 0 where
  pub digits : List ℕ
  pub customer : List ℕ
  pub pad : ℕ
  pub fill : List ℕ

-- the block's bytes before they are encrypted
abbrev pub plain_block : Form → BlockParts → List ℕ
plain_block form parts = packed (block_nibbles form parts.digits parts.customer parts.pad parts.fill)

-- the form takes them: nothing is refused, digits are decimal, customer data are nibbles, and there are the fill words that it draws
pub record IsTaken (form : Form) (parts : BlockParts) : Type 0 where
  pub faultless : block_fault form parts.digits parts.customer parts.pad ≡ None
  pub decimal : All (λ digit. digit < 10) parts.digits
  pub nibbles : All (λ nibble. nibble < 16) parts.customer
  pub filled : fill_count form (length parts.digits) ≤ length parts.fill

-- where two blocks are the same whose parts compare so, the PINs are the same
abbrev pub FixesThePin : Form → (BlockParts → BlockParts → Type 0) → Type 0
FixesThePin form Compare = (first second : BlockParts) → IsTaken form first → IsTaken form second → Compare first second
    → plain_block form first ≡ plain_block form second → first.digits ≡ second.digits

-- the same customer data
abbrev pub SameCustomer : BlockParts → BlockParts → Type 0
SameCustomer first second = second.customer ≡ first.customer

-- PINs of one length
abbrev pub SameLength : BlockParts → BlockParts → Type 0
SameLength first second = length first.digits ≡ length second.digits

-- any parts
abbrev pub AnyParts : BlockParts → BlockParts → Type 0
AnyParts first second = Unit {0}
