use Rattle.promise_spec.proofs.WholeFolders.{whole_image, serial_image, whole_folder}
use Rattle.promise_spec.proofs.folders.sound_folders_are_whole.Goals as goal

pub returns-clause-image : goal.returns-clause-image
returns-clause-image c = whole_image

pub returns-clause-serial : goal.returns-clause-serial
returns-clause-serial c = serial_image

pub returns-clause-folder : goal.returns-clause-folder
returns-clause-folder c = whole_folder
