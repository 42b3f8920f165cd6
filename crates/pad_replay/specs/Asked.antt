-- What the code found in the words of the command line.
use Rattle.pad_replay.specs.CommandLine.{Asked, Generates, Replays}
use Rattle.pad_replay.specs.declared.command_line.Request.{Request}
use Rattle.pad_replay.specs.declared.command_line.Request.TheVariants as requests
use Rattle.std.specs.Option.{option_copied}
use Rattle.std.specs.Prelude.{◌≤◌}

-- what a request asks for
abbrev pub asked_of : Request → Asked
asked_of (requests.Replay path seed) = Replays (option_copied path) seed
asked_of (requests.Generated rounds) = Generates rounds

-- at most 5,000 rounds are asked for
abbrev pub HasFewRounds : Request → Type 0
HasFewRounds (requests.Replay path seed) = Unit {0}
HasFewRounds (requests.Generated rounds) = rounds ≤ 5000
