-- `frame_bytes::bitmap::stands` meets its contract: the code shifts and tests as the definition of the bit says.
use mathlib.Core.Path.{refl}
use Rattle.frame.specs.Bitmap.{bit_at}
use Rattle.frame_bytes.proofs.bitmap.stands.Goals as goal

pub returns : goal.returns
unfolding bit_at
returns c = refl
