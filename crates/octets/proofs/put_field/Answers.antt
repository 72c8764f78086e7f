use Rattle.octets.proofs.PutLaws.{put-put}
use Rattle.octets.proofs.put_field.Goals as goal

pub returns : goal.returns
returns c = put-put c.put_decimal-on.ensures c.put_byte.ensures
