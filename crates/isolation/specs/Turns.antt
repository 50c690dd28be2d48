-- Which commands turn the start-up letter that the connectors share (B and b; I and M stay): X and Y, in running.
use Rattle.std.proofs.Math.Option.{Option, none, some}
use Rattle.fixed.specs.declared.Settings.{Settings}
use Rattle.line.specs.declared.Line.{Line}
use Rattle.line.specs.Command.{command_of}
use Rattle.line.specs.declared.Command.{Command}
use Rattle.line.specs.declared.Command.TheVariants.{B, C, D, G, H, Ka, Kb, Kc, Kd, K3, K4, N, P, «V», W, X, Y, Unknown}
use Rattle.state.specs.declared.State.{State}
use Rattle.state.specs.declared.State.TheVariants.{Ready, Running}
use Rattle.rules.specs.Does.{letter_now}
use Rattle.rules.specs.Lens.{Turn, by_x, by_y, turns_to}

unfoldable pub turn_of : Command → Option Turn
turn_of X = some by_x
turn_of Y = some by_y
turn_of B = none
turn_of C = none
turn_of D = none
turn_of G = none
turn_of H = none
turn_of Ka = none
turn_of (Kb n) = none
turn_of Kc = none
turn_of Kd = none
turn_of K3 = none
turn_of K4 = none
turn_of N = none
turn_of P = none
turn_of «V» = none
turn_of (W n) = none
turn_of Unknown = none

-- a line acted on: in ready X and Y do nothing
unfoldable pub turns_in : State → Line → Option Turn
turns_in Ready l = none
turns_in Running l = turn_of (command_of l)

-- the settings then
abbrev pub turned_by : Option Turn → Settings → Settings
turned_by none s = s
turned_by (some t) s = letter_now (turns_to t) s
