-- Refusals, each by its name and the value that it carries.
use Rattle.std.specs.Prelude.{List, codes, ℕ, ◌++◌}
use Rattle.std.specs.Fmt.{decimal}
use Rattle.pad_steps.specs.declared.answers.Refusal.{Refusal}
use Rattle.pad_steps.specs.declared.answers.Refusal.TheVariants as refusal

-- the refusal's name, and behind it the holder of the lock, the number of pending requests, the slot that reads
-- as bad, or the name of the key with the same value
unfoldable pub refusal_text : Refusal → List ℕ
refusal_text refusal.NoSession = codes "NOSESSION"
refusal_text refusal.AlreadyOpen = codes "ALREADYOPEN"
refusal_text refusal.ConnectionLost = codes "CONNECTIONLOST"
refusal_text (refusal.Locked holder) = codes "LOCKED " ++ decimal holder.number
refusal_text (refusal.QueueFull n) = codes "QUEUEFULL " ++ decimal n
refusal_text refusal.UnsuppCommand = codes "UNSUPPCOMMAND"
refusal_text refusal.FormatNotSupported = codes "FORMATNOTSUPPORTED"
refusal_text refusal.ModeNotSupported = codes "MODENOTSUPPORTED"
refusal_text refusal.InvalidData = codes "INVALIDDATA"
refusal_text refusal.HardwareError = codes "HARDWAREERROR"
refusal_text (refusal.BadStore slot) = codes "BADSTORE " ++ decimal slot
refusal_text refusal.MinimumLength = codes "MINIMUMLENGTH"
refusal_text refusal.NoActiveKeys = codes "NOACTIVEKEYS"
refusal_text refusal.KeyNotSupported = codes "KEYNOTSUPPORTED"
refusal_text refusal.KeyNotFound = codes "KEYNOTFOUND"
refusal_text refusal.KeyNoValue = codes "KEYNOVALUE"
refusal_text refusal.UseViolation = codes "USEVIOLATION"
refusal_text refusal.AccessDenied = codes "ACCESSDENIED"
refusal_text refusal.InvalidKeyLength = codes "INVALIDKEYLENGTH"
refusal_text (refusal.DuplicateKey name) = codes "DUPLICATEKEY " ++ name
refusal_text refusal.TableFull = codes "TABLEFULL"
refusal_text refusal.NoPin = codes "NOPIN"
refusal_text refusal.LengthError = codes "LENGTHERROR"
refusal_text refusal.Canceled = codes "CANCELED"
refusal_text refusal.Timeout = codes "TIMEOUT"
refusal_text refusal.InvalidReqId = codes "INVALIDREQID"
refusal_text refusal.NotLocked = codes "NOTLOCKED"
