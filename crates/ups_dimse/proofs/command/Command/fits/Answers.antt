use Rattle.std.proofs.Common.{refl}
use Rattle.ups_dimse.proofs.command.Command.fits.Goals as goal

pub returns-in-Response : goal.returns-in-Response
returns-in-Response g c = rw c.in-Response.is (λ h. tt, λ h. refl)

pub returns-in-Cancel : goal.returns-in-Cancel
returns-in-Cancel g c = rw c.in-Cancel.is (λ h. tt, λ h. refl)
